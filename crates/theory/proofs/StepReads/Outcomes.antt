-- A step on its view and on the page memory beside it: one outcome but for the pages, which are alike, if the pages that it follows and takes are open.
-- Main definitions: Licence (those pages are open), Same (the outcome beside), Reads (a step that performs, with its licence). Main statements: the ways in which steps are put together, each
-- on both page memories (guarded_reads, checked_reads, request_reads, release_reads, ended_reads, onward_reads, taking_reads, built_alike, ...).
use mathlib.Core.Path.{◌≡◌, refl}
use mathlib.Core.Bool.{Bool, true, false, cond, false≢true}
use mathlib.Core.List.{List, [], ◌∷◌}
use Prim.Native.Nat.{ℕ, ◌-◌, ◌<◌}
use native.Mathlib.Omega.{arith}
use lib.ListN.{length}
use lib.Dec.{eqb}
use Rattle.model.specs.declared.Party.{Party}
use Rattle.model.specs.declared.OperationAnswer.{OperationAnswer}
use Rattle.model.specs.declared.Restructuring.{Restructuring}
use Rattle.model.specs.Records.{at_step}
use Rattle.model.specs.Answers.{answer_of, restructuring_of, performs}
use Rattle.model.specs.LockWords.{Claim}
use Rattle.model.specs.declared.Entry.{Entry}
use Rattle.model.specs.Pages.{page_of, with_page, zero_page, page_sound, primary_page, scratch_page}
use Rattle.model.specs.Chains.{Checked, damaged, sound}
use Rattle.model.specs.Filling.{primary_of, overflow_written}
use Rattle.model.specs.FreeList.{too_few, Taken, pages_taken}
use Rattle.model.specs.Outcome.{View, Outcome, outcome, with_party, with_pages, moved, guarded, checked}
use Rattle.model.specs.ScratchPages.{scratch_of, primary_written}
use Rattle.model.specs.Endings.{done, finished, onward, old_pages_first, ended_with}
use Rattle.model.specs.LockRequests.{is_granted, with_hold, request, is_held, held_all, without_hold, given_up, release}
use Rattle.theory.specs.Links.{trace_of}
use Rattle.model.specs.PagePlaces.{pages_drawn}
use Rattle.theory.specs.Reads.{pages_followed}
use Rattle.model.proofs.Laws.Lists.{All, ltb-false}
use Rattle.model.proofs.Laws.Pages.{length_page_of, length-zero_page}
use Rattle.model.proofs.Laws.Filling.{IsOverflow, length-primary_of}
use Rattle.model.proofs.Effects.GiveUps.{given_up_rest}
use Rattle.model.proofs.Exits.Scratches.{has_page, taken_overflow}
use Rattle.theory.proofs.StepReads.Readings.{from_sound, TakenRead, taken_alike}
use Rattle.theory.proofs.StepReads.Writings.{Beside, Alike, Open, open_same, alike_start, alike_written, alike_overflow}

-- The pages that step number n follows, having answered so, and the free pages that it took are open.
pub record Licence (n : ℕ) (v : View) (opens : ℕ → Bool) (o : Outcome) : Type 0 where
  pub follows : Open opens (pages_followed (trace_of 0 n v o.answer 0 0 0).follows)
  pub takes : Open opens (pages_drawn (pages_taken v.root v.pages (v.root.free - o.after.root.free)))

-- The outcome o' beside o: the same but for the pages, which are alike.
pub record Same (v : View) (ps' : List ℕ) (opens : ℕ → Bool) (o o' : Outcome) : Type 0 where
  pub pages' : List ℕ
  pub out : o' ≡ outcome o.answer (with_pages pages' o.after)
  pub alike : Alike opens v.pages ps' o.after.pages pages'

-- So it is where the step performs and has its licence.
pub record Reads (n : ℕ) (v : View) (ps' : List ℕ) (opens : ℕ → Bool) (o o' : Outcome) : Type 0 where
  pub go : performs o.answer ≡ true → Licence n v opens o → Same v ps' opens o o'

-- ---- Locks go by lock words

pub given_up_beside : (cs : List Claim) (qs : List ℕ) (u : View) → given_up cs (with_pages qs u) ≡ with_pages qs (given_up cs u)
unfolding given_up without_hold
given_up_beside [] qs u = refl
given_up_beside (c ∷ cs) qs u = given_up_beside cs qs (without_hold c u)

pub held_beside : (cs : List Claim) (qs : List ℕ) (u : View) → held_all (with_pages qs u) cs ≡ held_all u cs
unfolding held_all is_held
held_beside [] qs u = refl
held_beside (c ∷ cs) qs u = rw (held_beside cs qs u)

-- ---- The ways in which steps are put together

module _ (n : ℕ) (v : View) (ps' : List ℕ) (opens : ℕ → Bool) where
  pub guarded_reads : (t t' : Bool) (o o' : Outcome) → (t ≡ true → Licence n v opens o → t' ≡ true) → (t ≡ true → Reads n v ps' opens o o')
      → Reads n v ps' opens (guarded v t o) (guarded (with_pages ps' v) t' o')
  unfolding performs
  guarded_reads true t' o o' f g = record { go = λ p l. rw (f refl l) ((g refl).go p l) }
  guarded_reads false t' o o' f g = record { go = λ p l. absurd (false≢true p) }

  -- The same test on both.
  pub tested_reads : (t : Bool) (o o' : Outcome) → (t ≡ true → Reads n v ps' opens o o') → Reads n v ps' opens (guarded v t o) (guarded (with_pages ps' v) t o')
  tested_reads t o o' g = guarded_reads t t o o' (λ e l. e) g

  pub checked_reads : {A : Type 0} (x x' : Checked A) (f f' : A → Outcome) → ((a : A) → x ≡ sound a → Licence n v opens (f a) → x' ≡ sound a)
      → ((a : A) → x ≡ sound a → Reads n v ps' opens (f a) (f' a)) → Reads n v ps' opens (checked v x f) (checked (with_pages ps' v) x' f')
  unfolding performs
  checked_reads damaged x' f f' h g = record { go = λ p l. absurd (false≢true p) }
  checked_reads (sound a) x' f f' h g = record { go = λ p l. rw (h a refl l) ((g a refl).go p l) }

  pub cond_reads : (t : Bool) (x y x' y' : Outcome) → (t ≡ true → Reads n v ps' opens x x') → (t ≡ false → Reads n v ps' opens y y') → Reads n v ps' opens (cond t x y) (cond t x' y')
  cond_reads true x y x' y' f g = f refl
  cond_reads false x y x' y' f g = g refl

  pub same_reads : (o o' : Outcome) → Same v ps' opens o o' → Reads n v ps' opens o o'
  same_reads o o' s = record { go = λ p l. s }

  pub moved_same : (u : View) (qs' : List ℕ) → Alike opens v.pages ps' u.pages qs' → Same v ps' opens (moved u) (moved (with_pages qs' u))
  moved_same u qs' k = record { pages' = qs'; out = refl; alike = k }

  pub moved_reads : (u : View) (qs' : List ℕ) → Alike opens v.pages ps' u.pages qs' → Reads n v ps' opens (moved u) (moved (with_pages qs' u))
  moved_reads u qs' k = same_reads (moved u) (moved (with_pages qs' u)) (moved_same u qs' k)

  module _ (b : Beside v ps' opens) where
    -- The party's scratch page and its chains' primary pages are the same in both.
    pub scratch_same : page_of ps' (scratch_page v.root v.number) ≡ page_of v.pages (scratch_page v.root v.number)
    scratch_same = b.agree _ (b.scratch_open_ok (scratch_page v.root v.number) (omega arith))

    pub primary_same : (c : ℕ) → c < v.root.primaries → page_of ps' (primary_page c) ≡ page_of v.pages (primary_page c)
    primary_same c h = b.agree c (b.primary_open c h)

    pub scratch_written_ok : (qs qs' : List ℕ) → Alike opens v.pages ps' qs qs' → (x : ℕ) (w : List ℕ) → x ≡ scratch_page v.root v.number → length w ≡ 16
        → Alike opens v.pages ps' (with_page qs x w) (with_page qs' x w)
    scratch_written_ok qs qs' k x w e h = alike_written v ps' opens b qs qs' k x w (b.scratch_open_ok x (omega arith)) (omega (arith, b.ready.number_fits)) h

    pub primary_written_ok : (qs qs' : List ℕ) → Alike opens v.pages ps' qs qs' → (c : ℕ) (w : List ℕ) → c < v.root.primaries → length w ≡ 16
        → Alike opens v.pages ps' (with_page qs c w) (with_page qs' c w)
    primary_written_ok qs qs' k c w l h = alike_written v ps' opens b qs qs' k c w (b.primary_open c l) (omega arith) h

    pub request_reads : (c : Claim) (p : Party) → Reads n v ps' opens (request v c p) (request (with_pages ps' v) c p)
    unfolding request is_granted with_hold performs
    request_reads c p =
        cond_reads (is_granted v c) _ _ _ _ (λ _. moved_reads (with_party p (with_hold c v)) ps' (alike_start v ps' opens b))
        (λ _. record { go = λ p l. absurd (false≢true p) })

    pub done_reads : (a : OperationAnswer) (s : Restructuring) (u : View) (qs' : List ℕ) → Alike opens v.pages ps' u.pages qs'
        → scratch_page u.root u.number ≡ scratch_page v.root v.number → Reads n v ps' opens (done a s u) (done a s (with_pages qs' u))
    done_reads a s u qs' k e =
        same_reads _ _ (record { pages' = with_page qs' (scratch_page u.root u.number) zero_page; out = refl; alike = scratch_written_ok u.pages qs' k _ zero_page e length-zero_page })

    pub release_reads : (cs : List Claim) (p : Party) → Reads n v ps' opens (release v cs p) (release (with_pages ps' v) cs p)
    unfolding release
    release_reads cs p =
        rw (held_beside cs ps' v, given_up_beside cs ps' v)
        (tested_reads (held_all v cs) _ _ (λ _. moved_reads (with_party p (given_up cs v)) ps' (rw (given_up_rest cs v) (alike_start v ps' opens b))))

    pub ended_reads : (cs : List Claim) (s : Restructuring) → Reads n v ps' opens (ended_with v cs s) (ended_with (with_pages ps' v) cs s)
    unfolding ended_with
    ended_reads cs s =
        rw (held_beside cs ps' v, given_up_beside cs ps' v)
        (tested_reads (held_all v cs) _ _
        (λ _. done_reads (answer_of v.party.answer) s (given_up cs v) ps' (rw (given_up_rest cs v) (alike_start v ps' opens b)) (rw (given_up_rest cs v))))

    -- On to 15 or 23, or done.
    pub finished_reads : (u : View) (qs' : List ℕ) → Alike opens v.pages ps' u.pages qs' → scratch_page u.root u.number ≡ scratch_page v.root v.number
        → Reads n v ps' opens (finished u) (finished (with_pages qs' u))
    unfolding finished
    finished_reads u qs' k e = done_reads (answer_of u.party.answer) (restructuring_of u.party.owed) u qs' k e

    pub onward_reads : (u : View) (qs' : List ℕ) → Alike opens v.pages ps' u.pages qs' → scratch_page u.root u.number ≡ scratch_page v.root v.number
        → Reads n v ps' opens (onward u) (onward (with_pages qs' u))
    unfolding onward
    onward_reads u qs' k e =
        cond_reads (eqb u.party.owed 1) _ _ _ _ (λ _. moved_reads (with_party (at_step 15 u.party) u) qs' k)
        (λ _. cond_reads (eqb u.party.owed 2) _ _ _ _ (λ _. moved_reads (with_party (at_step 23 u.party) u) qs' k) (λ _. finished_reads u qs' k e))

    -- To 13 where there are old pages.
    pub old_reads : (u : View) (qs' : List ℕ) (o o' : Outcome) → Alike opens v.pages ps' u.pages qs' → Reads n v ps' opens o o'
        → Reads n v ps' opens (old_pages_first u o) (old_pages_first (with_pages qs' u) o')
    unfolding old_pages_first
    old_reads u qs' o o' k f = cond_reads (eqb u.party.old 0) _ _ _ _ (λ _. f) (λ _. moved_reads (with_party (at_step 13 u.party) u) qs' k)

    -- The party's scratch page over its chain's primary page.
    pub scratch_long : length (scratch_of v) ≡ 16
    scratch_long = length_page_of (has_page v b.ready v.pages (scratch_page v.root v.number) refl (omega (arith, b.ready.number_fits)))

    pub over_reads : (next : ℕ) → Reads n v ps' opens (primary_written v next) (primary_written (with_pages ps' v) next)
    unfolding primary_written
    over_reads next =
        rw scratch_same
        (tested_reads (page_sound v.root (scratch_of v)) _ _
        (λ _. moved_reads _ _ (primary_written_ok v.pages ps' (alike_start v ps' opens b) (primary_page v.party.chain) (scratch_of v) b.ready.chain_fits scratch_long)))

    -- k pages taken from the free list.
    pub taking_reads : (k : ℕ) (f f' : Taken → Outcome) → too_few v.root k ≡ false → ((t : Taken) → (f t).after.root.free ≡ v.root.free - k)
        → ((t : Taken) → Open opens t.pages → All (IsOverflow v.root) t.pages → Same v ps' opens (f t) (f' t))
        → Reads n v ps' opens (checked v (pages_taken v.root v.pages k) f) (checked (with_pages ps' v) (pages_taken v.root ps' k) f')
    unfolding pages_drawn too_few
    taking_reads k f f' enough less g =
        checked_reads (pages_taken v.root v.pages k) (pages_taken v.root ps' k) f f'
        (λ t e l. from_sound (TakenRead v.root v.pages ps' k) (pages_taken v.root v.pages k) (taken_alike v.root v.pages ps' k) t e
        (open_same v ps' opens b t.pages (opened t e l)))
        (λ t e. record { go = λ p l. g t (opened t e l) (from_sound (λ (t : Taken). All (IsOverflow v.root) t.pages) (pages_taken v.root v.pages k) (taken_overflow v.root v.pages k) t e) })
      where
        as_many : (t : Taken) → v.root.free - (f t).after.root.free ≡ k
        as_many t = let h = ltb-false v.root.free k enough in let s = less t in omega arith

        opened : (t : Taken) → pages_taken v.root v.pages k ≡ sound t → Licence n v opens (f t) → Open opens t.pages
        opened t e l = rw (as_many t, e) at l.takes

    -- One chain built in pages taken, its primary page in scratch.
    pub built_alike : (level : ℕ) (es : List Entry) (xs : List ℕ) → Open opens xs → All (IsOverflow v.root) xs
        → Alike opens v.pages ps' (with_page (overflow_written v.root.capacity v.pages xs es) (scratch_page v.root v.number) (primary_of v.root.capacity level es xs))
        (with_page (overflow_written v.root.capacity ps' xs es) (scratch_page v.root v.number) (primary_of v.root.capacity level es xs))
    built_alike level es xs o a =
        scratch_written_ok (overflow_written v.root.capacity v.pages xs es) (overflow_written v.root.capacity ps' xs es)
        (alike_overflow v ps' opens b v.pages ps' (alike_start v ps' opens b) xs es o a) (scratch_page v.root v.number) (primary_of v.root.capacity level es xs) refl
        (length-primary_of v.root.capacity level es xs b.ready.keys_fit)
