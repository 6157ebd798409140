-- Demand 2, run singly: after every list of calls that leaves nobody under way, an operation run from begin to done
-- alone never waits, ends, answers as the sequential yardstick and as a plain map do and leaves level, next and every
-- chain's records as one operation of the yardstick leaves them; and so a list of operations from formatted memory.
-- Main statements: begins_alone; find_run, insert_run, delete_run, run_ends (under the invariant); run_singly (one
-- operation), list_singly (a list of them).
use mathlib.Core.Path.{◌≡◌, refl, sym, ap, ◌∙◌, subst}
use mathlib.Core.Bool.{true}
use mathlib.Core.List.{List, [], ◌∷◌, ◌++◌, append-nil, append_assoc}
use Prim.Native.Nat.{ℕ, suc, ◌<◌}
use native.Mathlib.Omega.{arith}
use lib.ListN.{length}
use lib.Dec.{ltb}
use Rattle.std.specs.Prelude.{Ok}
use Rattle.model.specs.declared.Operation.{Operation}
use Rattle.model.specs.Records.{begun}
use Rattle.model.specs.Answers.{operation_number, setting_given, CallReply}
use Rattle.model.specs.Memory.{Memory, party_at}
use Rattle.model.specs.Calls.{Called, called, with_begun, begin_call}
use Rattle.model.specs.Runs.{Call, Reply, to_begin, reply_to, after_call, event_of, events, final_memory}
use Rattle.model.specs.Book.{Book, enter}
use Rattle.theory.specs.Sequential.{File, file_of, map_in}
use Rattle.theory.proofs.Singly.StepWords.{performed_on}
use Rattle.theory.proofs.Singly.Tied.{performed_same}
use Rattle.theory.specs.Singly.{Wanted, parties_fit, steps_of, calls_alone, replies_of, replies_alone, done_by, calls_singly, replies_singly, performed_all}
use Rattle.theory.specs.Demands.{Start, map_start, sizes_of, start, Reached, book_reached, AtRest, file_reached, yardstick, RunSingly, ListSingly}
use Rattle.model.proofs.Laws.Lists.{and_both, ltb-true}
use Rattle.model.proofs.Invariant.Statement.{Inv}
use Rattle.model.proofs.Invariant.Frame.{SameLimits}
use Rattle.model.proofs.Effects.Kept.{row_same, row_other}
use Rattle.model.proofs.Theorems.Calls.{StepsKept, within_limits_lem, lengths_fit_ok, begun_inv}
use Rattle.model.proofs.Theorems.RefusalOrder.{begin_order}
use Rattle.model.proofs.Theorems.AllSteps.{steps_kept}
use Rattle.theory.proofs.Reached.{reached_inv, final_append}
use Rattle.theory.proofs.SizesStay.{reached_limits}
use Rattle.theory.proofs.UnderWay.{idle_unentered}
use Rattle.theory.proofs.Singly.Files.{Holding, map_held}
use Rattle.theory.proofs.Singly.AtRest.{live_holding, file_read}
use Rattle.theory.proofs.Singly.Whole.{idle_at_rest, no_pages_at_rest, live_at_rest, whole_at_rest}
use Rattle.theory.proofs.Singly.Maps.{holding_map, AsMap, performed-as-map, all_as-map}
use Rattle.theory.proofs.Singly.Given.{file_given, performed-given, reached_holding, reached_map, reached_home, reached_reads, start_rests, some_original, start_held}
use Rattle.theory.proofs.Singly.Alone.{Alone, left_by, Ends, plain, live-plain}
use Rattle.theory.proofs.Singly.Locate.{locates}
use Rattle.theory.proofs.Singly.Find.{find_ends}
use Rattle.theory.proofs.Singly.Change.{insert_ends, delete_ends}

-- ---- An operation begun at rest

module _ (m : Memory) (b : Book) (i : Inv m b) (rest : AtRest b) (q : ℕ) (in_row : q < m.root.parties) (o : Operation) (k : ℕ) where
  pub begins : begin_call m q o k ≡ called (Ok tt) (with_begun m q o k)
  begins = (begin_order m q o k).none (within_limits_lem m.root i.limits) (lengths_fit_ok m b i) in_row (rw (idle_at_rest m b i rest q) refl)

  row_long : q < length m.parties
  row_long = omega (arith, i.parties_many)

  holding_now : Holding m.root.originals (file_of m.root m) b.contents
  holding_now = subst (λ (f : File). Holding m.root.originals f b.contents) (sym (file_read m b i (live_at_rest m b i rest))) (live_holding m b i)

  pub begins_alone : Alone (with_begun m q o k) (enter b q o k) q (begun (operation_number o) k (setting_given o)) (file_of m.root m) 0
  unfolding with_begun enter file_of plain
  begins_alone = record {
    inv = begun_inv m b i q o k in_row (idle_at_rest m b i rest q) (no_pages_at_rest m b i rest q);
    in_row = in_row;
    mine = row_same m.parties q (begun (operation_number o) k (setting_given o)) row_long;
    others = λ j d. row_other m.parties q j (begun (operation_number o) k (setting_given o)) d ∙ idle_at_rest m b i rest j;
    extent_is = sym (live-plain m.root (begun (operation_number o) k (setting_given o)) 1 refl refl);
    holding = holding_now;
    whole = omega (arith, (whole_at_rest m b i rest).all_pages);
  }

-- ---- Each operation

module _ (steps : StepsKept) (m : Memory) (b : Book) (i : Inv m b) (rest : AtRest b) (q : ℕ) (in_row : q < m.root.parties) (k : ℕ) where
  find_run : Ends (with_begun m q Operation.Find k) q (performed_on m.root (file_of m.root m) Operation.Find k)
  unfolding performed_on operation_number setting_given with_begun plain
  find_run =
      let f = file_of m.root m in
      let y = performed_on m.root f Operation.Find k in
      locates steps q f y 9 refl (with_begun m q Operation.Find k) (enter b q Operation.Find k) (begun 1 k 0) (begins_alone m b i rest q in_row Operation.Find k) refl refl
      (λ x. find_ends steps m.root q k f x)

  insert_run : (x : ℕ) → Ends (with_begun m q (Operation.Insert x) k) q (performed_on m.root (file_of m.root m) (Operation.Insert x) k)
  unfolding performed_on operation_number setting_given with_begun plain
  insert_run x =
      let f = file_of m.root m in
      let o = Operation.Insert x in
      let y = performed_on m.root f o k in
      locates steps q f y 10 refl (with_begun m q o k) (enter b q o k) (begun 2 k x) (begins_alone m b i rest q in_row o k) refl refl
      (λ t. insert_ends steps m.root q k x f t)

  delete_run : Ends (with_begun m q Operation.Delete k) q (performed_on m.root (file_of m.root m) Operation.Delete k)
  unfolding performed_on operation_number setting_given with_begun plain
  delete_run =
      let f = file_of m.root m in
      let y = performed_on m.root f Operation.Delete k in
      locates steps q f y 10 refl (with_begun m q Operation.Delete k) (enter b q Operation.Delete k) (begun 3 k 0) (begins_alone m b i rest q in_row Operation.Delete k) refl refl
      (λ x. delete_ends steps m.root q k f x)

-- ---- Lists of calls, one after the other

replies_append : (m : Memory) (cs ds : List Call) → replies_of (events m (cs ++ ds)) ≡ replies_of (events m cs) ++ replies_of (events (final_memory m cs) ds)
unfolding final_memory events event_of replies_of
replies_append m [] ds = refl
replies_append m (c ∷ cs) ds = ap (λ (l : List Reply). reply_to m c ∷ l) (replies_append (after_call m c) cs ds)

-- ---- One operation

pub run_ends : StepsKept → (m : Memory) (b : Book) → Inv m b → AtRest b → (q : ℕ) → q < m.root.parties → (o : Operation) (k : ℕ)
    → Ends (with_begun m q o k) q (performed_on m.root (file_of m.root m) o k)
run_ends steps m b i rest q in_row Operation.Find k = find_run steps m b i rest q in_row k
run_ends steps m b i rest q in_row (Operation.Insert x) k = insert_run steps m b i rest q in_row k x
run_ends steps m b i rest q in_row Operation.Delete k = delete_run steps m b i rest q in_row k

module _ (s : Start) (cs : List Call) (rest : AtRest (book_reached s cs)) (x : Wanted) (fits : x.party < (sizes_of s).parties) where
  abbrev m : Memory
  m = Reached s cs

  abbrev q : ℕ
  q = x.party

  abbrev o : Operation
  o = x.operation

  abbrev k : ℕ
  k = x.key

  limits : SameLimits (sizes_of s) (Reached s cs).root
  limits = reached_limits s cs

  in_row : x.party < (Reached s cs).root.parties
  in_row = omega (arith, limits.parties=)

  begins_then : begin_call (Reached s cs) x.party x.operation x.key ≡ called (Ok tt) (with_begun (Reached s cs) x.party x.operation x.key)
  begins_then = begins m (book_reached s cs) (reached_inv s cs) rest q in_row o k

  -- The yardstick by the root's sizes is that by the sizes given.
  yardstick-is : performed_on (Reached s cs).root (file_of (Reached s cs).root (Reached s cs)) x.operation x.key ≡ yardstick s cs x
  yardstick-is =
      ap (λ (f : File). performed_on m.root f o k) (sym (file_given (sizes_of s) m limits))
      ∙ performed-given (sizes_of s) m.root limits (file_reached s cs) o k ∙ sym (performed_same (sizes_of s) (file_reached s cs) k o)

  e : Ends (with_begun (Reached s cs) x.party x.operation x.key) x.party (yardstick s cs x)
  e = subst (Ends (with_begun m q o k) q) yardstick-is (run_ends steps_kept m (book_reached s cs) (reached_inv s cs) rest q in_row o k)

  abbrev then : List Call
  then = cs ++ calls_alone x e.moves

  replies_are : replies_of (events (Reached s cs) (calls_alone x e.moves)) ≡ replies_alone e.moves (done_by (yardstick s cs x))
  unfolding calls_alone replies_alone events event_of reply_to after_call replies_of
  replies_are =
      ap (λ (c : Called CallReply). to_begin c.answer ∷ replies_of (events c.memory (steps_of q (suc e.moves)))) begins_then
      ∙ ap (λ (l : List Reply). to_begin (Ok tt) ∷ l) e.replies

  memory_is : Reached s (cs ++ calls_alone x e.moves) ≡ left_by (with_begun (Reached s cs) x.party x.operation x.key) x.party e.moves
  unfolding calls_alone final_memory after_call
  memory_is =
      final_append (start s) cs (calls_alone x e.moves)
      ∙ ap (λ (c : Called CallReply). final_memory c.memory (steps_of q (suc e.moves))) begins_then

  leaves_file : file_reached s (cs ++ calls_alone x e.moves) ≡ (yardstick s cs x).file
  leaves_file =
      file_given (sizes_of s) (Reached s then) (reached_limits s then)
      ∙ ap (λ (t : Memory). file_of t.root t) memory_is ∙ e.leaves

  rests_then : AtRest (book_reached s (cs ++ calls_alone x e.moves))
  rests_then =
      idle_unentered (Reached s then) (book_reached s then) (reached_inv s then)
      (λ j. ap (λ (t : Memory). party_at t.parties j) memory_is ∙ e.rests j)

  -- The file that the yardstick takes holds the map that it holds.
  as-map-is : AsMap (sizes_of s).originals (map_in (file_reached s cs)) x.operation x.key (yardstick s cs x)
  as-map-is =
      performed-as-map (sizes_of s) (some_original s) (file_reached s cs) (map_in (file_reached s cs))
      (holding_map (sizes_of s).originals (file_reached s cs) (book_reached s cs).contents (reached_holding s cs rest)) k o

  -- DEMAND 2, one operation run singly.
  pub run_singly : RunSingly s cs x
  run_singly = record {
    moves = e.moves;
    replies = replies_are;
    leaves = leaves_file;
    rests = rests_then;
    reads = reached_reads s cs rest;
    reads_after = reached_reads s then rests_then;
    map = reached_map s cs rest;
    map_after_ok = reached_map s then rests_then;
    home = reached_home s cs rest;
    home_after = reached_home s then rests_then;
    as-map = as-map-is.as-map;
    leaves_map = ap map_in leaves_file ∙ map_held (sizes_of s).originals (yardstick s cs x).file _ as-map-is.holding;
  }

-- ---- A list of operations

-- What is owed of a list of operations run singly after a list of calls.
record ListFrom (s : Start) (cs : List Call) (xs : List Wanted) : Type 0 where
  pub moves : List ℕ
  pub replies : replies_of (events (Reached s cs) (calls_singly xs moves)) ≡ replies_singly (performed_all (sizes_of s) (file_reached s cs) xs).answers moves
  pub leaves : file_reached s (cs ++ calls_singly xs moves) ≡ (performed_all (sizes_of s) (file_reached s cs) xs).file
  pub rests : AtRest (book_reached s (cs ++ calls_singly xs moves))

list_from_lem : (s : Start) (cs : List Call) → AtRest (book_reached s cs) → (xs : List Wanted) → parties_fit (sizes_of s).parties xs ≡ true → ListFrom s cs xs
unfolding calls_singly replies_singly performed_all parties_fit events replies_of
list_from_lem s cs rest [] f = record {
  moves = [];
  replies = refl;
  leaves = ap (file_reached s) (append-nil cs);
  rests = subst (λ (l : List Call). AtRest (book_reached s l)) (sym (append-nil cs)) rest;
}
list_from_lem s cs rest (x ∷ xs) f =
    let h = and_both (ltb x.party (sizes_of s).parties) (parties_fit (sizes_of s).parties xs) f in
    let one = run_singly s cs rest x (ltb-true x.party (sizes_of s).parties h.0) in
    let mine = calls_alone x one.moves in
    let more = list_from_lem s (cs ++ mine) one.rests xs h.1 in
    let others = calls_singly xs more.moves in
    let y = yardstick s cs x in
    let seam = append_assoc cs mine others in
    record {
      moves = one.moves ∷ more.moves;
      replies =
          replies_append (Reached s cs) mine others
          ∙ ap (λ (l : List Reply). l ++ replies_of (events (final_memory (Reached s cs) mine) others)) one.replies
          ∙ ap (λ (t : Memory). replies_alone one.moves (done_by y) ++ replies_of (events t others)) (sym (final_append (start s) cs mine))
          ∙ ap (λ (l : List Reply). replies_alone one.moves (done_by y) ++ l) more.replies
          ∙ ap (λ (t : File). replies_alone one.moves (done_by y) ++ replies_singly (performed_all (sizes_of s) t xs).answers more.moves) one.leaves;
      leaves = ap (file_reached s) (sym seam) ∙ more.leaves ∙ ap (λ (t : File). (performed_all (sizes_of s) t xs).file) one.leaves;
      rests = subst (λ (l : List Call). AtRest (book_reached s l)) seam more.rests;
    }

-- DEMAND 2, a list of operations run singly from formatted memory.
pub list_singly : (s : Start) (xs : List Wanted) → parties_fit (sizes_of s).parties xs ≡ true → ListSingly s xs
unfolding final_memory
list_singly s xs f =
    let all = list_from_lem s [] (start_rests s) xs f in
    record {
      moves = all.moves;
      replies = all.replies;
      leaves = all.leaves;
      rests = all.rests;
      as-map = all_as-map (sizes_of s) (some_original s) (file_reached s []) (map_start s) (start_held s) xs;
    }
