-- Step 11 keeps the invariant: the primary page is written, and the chain that stood rebuilt beside the file is the file's.
-- Main statement: step11-kept.
use mathlib.Core.Path.{◌≡◌, refl, sym, ap, ◌∙◌, subst}
use mathlib.Core.Logic.{◌≢◌}
use mathlib.Core.Bool.{Bool, true, false, cond, ◌&&◌, ◌||◌, false≢true}
use mathlib.Core.List.{List}
use mathlib.Core.Option.{some}
use Prim.Native.Nat.{ℕ, ◌<◌}
use native.Mathlib.Omega.{arith}
use lib.ListN.{length, set}
use lib.Dec.{eqb}
use Rattle.model.specs.declared.Party.{Party}
use Rattle.model.specs.declared.Mode.{Mode}
use Rattle.model.specs.declared.Mode.TheVariants.{Read, Selective}
use Rattle.model.specs.Sizes.{page_words}
use Rattle.model.specs.Records.{at_step}
use Rattle.model.specs.LockWords.{chain_word}
use Rattle.model.specs.Addresses.{hash, address_of}
use Rattle.model.specs.declared.Entry.{Entry}
use Rattle.model.specs.Entries.{has_key, ascending, setting_in}
use Rattle.model.specs.Pages.{page_of, with_page, scratch_page, primary_page, link_to_first, page_sound}
use Rattle.model.specs.Memory.{Memory, party_at, view_of}
use Rattle.model.specs.Book.{Book, Entered, changed_at, with_entry, with_contents, noted, note_at_eleven, contents_at_eleven, note_step, note_for}
use Rattle.model.specs.Holds.{same_mode}
use Rattle.model.specs.LockRequests.{mode_of}
use Rattle.model.specs.Steps.Rebuild.{split_owed, merge_owed, owed_by}
use Rattle.model.specs.ScratchPages.{primary_written}
use Rattle.model.specs.Steps.Write.{step11}
use Rattle.model.specs.Steps.Dispatch.{has_step}
use Rattle.model.specs.Answers.{answer_of}
use Rattle.model.proofs.Laws.Lists.{Cmp, same, diff, cmp, eqb_same, eqb-diff}
use Rattle.model.proofs.Laws.Structure.{ChainIs}
use Rattle.model.proofs.Laws.Changes.{setting_after, setting_eleven, ascends_eleven, ChangeMade, change_made, change_ascends, change_settings, keys_kept}
use Rattle.model.proofs.Invariant.Ghost.{Owner, owner, free, in_chain, old_of, partner_of, built_by, new_by, size, local_level, same_owner, Ghost}
use Rattle.model.proofs.Invariant.Owners.{kinds_apart, indices_apart, own_anew, held_anew, anew_chain, anew_old, anew_built, anew_other, owned_anew, own_anew_old, own_anew_other, kinds_anew}
use Rattle.model.proofs.Invariant.Extents.{home_is}
use Rattle.model.specs.Claims.{claims}
use Rattle.model.proofs.Invariant.Claims.{is_claimed, claimed}
use Rattle.model.proofs.Invariant.LockMoves.{locks_stay}
use Rattle.model.proofs.Invariant.Statement.{restructures, uses, PagesOk, BookOk, Scene, Protected, Rebuilt, Leaving, made_change, owed_fits, PartyOk, working}
use Rattle.model.proofs.Invariant.Frame.{Keeps, still_grows, holds_selectively}
use Rattle.model.proofs.Invariant.Facts.{used_outside, changed_here, changed_elsewhere}
use Rattle.model.proofs.Invariant.Turn.{Turn, has_step_ok, its_claims, row_long, me, before, uses_none}
use Rattle.model.proofs.Effects.Kept.{Kept, row_other, row_chain, Parts, moved-kept}
use Rattle.model.proofs.Effects.OwnRecord.{same_limits, same_sizes}
use Rattle.model.proofs.Effects.PrimaryPage.{held_alone, length_scratch, built_sound, primary_off, primary_same, primary_long, written_here, written_beside, old_linked, free_beside, read_beside}
use Rattle.model.proofs.Effects.Moves.{extents_rest}
use Rattle.model.proofs.Laws.Entries.{has_same}

-- What a change owes is one of the things that may be owed.
owed_may : (n before now : ℕ) (es : List Entry) → has_step n 11 ≡ true → owed_fits n (owed_by n before now es) ≡ true
unfolding has_step owed_fits owed_by
owed_may n before now es h = go (eqb n 1) (eqb n 2) (eqb n 3) (split_owed before now) (merge_owed es) h
  where
    go : (z x y t u : Bool) → ((z && false) || (x && true) || (y && true)) ≡ true
        → (eqb (cond x (cond t 1 0) (cond u 2 0)) 0 || (x && (eqb (cond x (cond t 1 0) (cond u 2 0)) 1 || eqb (cond x (cond t 1 0) (cond u 2 0)) 3)) || (y && eqb (cond x (cond t 1 0) (cond u 2 0)) 2)) ≡ true
    go z true y true u h = refl
    go z true y false u h = refl
    go z false true t true h = refl
    go z false true t false h = refl
    go true false false t u h = absurd (false≢true h)
    go false false false t u h = absurd (false≢true h)

module _ {m : Memory} {b : Book} {q : ℕ} (t : Turn m b q 11) where
  abbrev here : ℕ
  here = (party_at m.parties q).chain

  abbrev scratch : List ℕ
  scratch = page_of m.pages (scratch_page m.root q)

  abbrev level : ℕ
  level = local_level m.root.originals t.inv.ghost.live here

  abbrev entered : Entered
  entered = t.entered

  facts : Rebuilt (before t) q (me t)
  facts = t.facts

  abbrev after : List Entry
  after = facts.after

  abbrev built : List ℕ
  built = t.inv.ghost.held (built_by q)

  -- ---- The page written

  abbrev pages_then : List ℕ
  pages_then = with_page m.pages (primary_page here) scratch

  live_here : here < size m.root.originals t.inv.ghost.live
  live_here = facts.at_home.heads.inside

  fits : here < m.root.primaries
  fits = t.busy.chain_fits

  whole : length scratch ≡ page_words
  whole = length_scratch m b t.inv q t.in_row

  off : (x : ℕ) → x ≢ here → page_of pages_then x ≡ page_of m.pages x
  off = primary_off m b t.inv here fits scratch whole

  chain_then : ChainIs m.root.capacity pages_then here level after built
  chain_then = written_here m b t.inv here fits scratch whole level after (built_by q) facts.building.scratch_is facts.building.built

  scratch_sound : page_sound m.root scratch ≡ true
  scratch_sound = built_sound m b t.inv q level after facts.building (omega (arith, facts.at_home.exact, t.busy.lev_fits))

  -- ---- Ghost, record and book afterwards

  abbrev then_party : Party
  then_party = at_step 12 (party_at m.parties q)

  abbrev ghost_then : Ghost
  ghost_then = record {
    own = own_anew t.inv.ghost.own t.inv.ghost.held here q;
    held = held_anew t.inv.ghost.held here q;
    records = changed_at t.inv.ghost.records here after;
    live = t.inv.ghost.live;
    low = t.inv.ghost.low;
  }

  abbrev was_in : Bool
  was_in = has_key entered.key b.contents

  abbrev entry_then : Entered
  entry_then = noted entered (note_at_eleven entered.operation was_in)

  abbrev book_then_ok : Book
  book_then_ok = with_contents (with_entry b q (some entry_then)) (contents_at_eleven entered.operation entered.key b.contents)

  abbrev then_scene : Scene
  then_scene = record { root = m.root; parties = set m.parties q then_party; pages = pages_then; ghost = ghost_then; entries = book_then_ok.entries }

  -- A list of pages that is neither the chain's nor this party's old or built pages stays.
  held_kept : (o : Owner) → same_owner o (in_chain here) ≡ false → same_owner o (old_of q) ≡ false → same_owner o (built_by q) ≡ false → ghost_then.held o ≡ t.inv.ghost.held o
  held_kept o a d e = anew_other t.inv.ghost.held here q o a d e

  other_chain : (d : ℕ) → d ≢ here → ghost_then.held (in_chain d) ≡ t.inv.ghost.held (in_chain d)
  other_chain d n =
      held_kept (in_chain d) (indices_apart (in_chain d) (in_chain here) n) (kinds_apart (in_chain d) (old_of q) refl) (kinds_apart (in_chain d) (built_by q) refl)

  -- ---- What others rely on

  holds_here : claimed m.root m.parties (chain_word here) q Selective ≡ true
  unfolding has_step
  holds_here = holds_selectively (before t) q (me t) entered 11 t.is_at t.busy (λ o. refl) refl

  -- Nobody else holds the chain but to read it.
  only_mine : (j : ℕ) → j ≢ q → (d : ℕ) (o : Mode) → is_claimed (claims m.root (party_at m.parties j)) (chain_word d) o ≡ true → same_mode o Read ≡ false → d ≢ here
  unfolding same_mode
  only_mine = held_alone m b t.inv q here Selective fits refl holds_here

  -- A page that a reader may walk stays, and stays protected: the chain's pages are now to be given back for it.
  read_page : (c x : ℕ) → Protected (before t) c x → Protected then_scene c x × (page_of pages_then x ≡ page_of m.pages x)
  read_page =
      read_beside m b t.inv here fits scratch whole then_scene refl q refl (own_anew_old t.inv.pages_ok.owned here q)
      (λ x o k n y. own_anew_other t.inv.pages_ok.owned here q x (rw y n) (rw y (kinds_apart o (built_by q) (eqb-diff o.kind 5 (omega arith)))) ∙ y)
      (row_chain m.parties q then_party (row_long t) refl)

  keeps_others : (j : ℕ) → j ≢ q → Keeps (before t) then_scene j (party_at m.parties j)
  keeps_others j n = record {
    sizes = same_limits m.root;
    grows = still_grows (before t) then_scene (party_at m.parties j) (record { level= = refl; next= = refl; live= = refl; low= = refl });
    entry= = changed_elsewhere b.entries q (some entry_then) j n;
    ours = λ k a d. (
      held_kept (owner k j) (kinds_apart (owner k j) (in_chain here) (eqb-diff k 2 (omega arith))) (indices_apart (owner k j) (old_of q) n) (indices_apart (owner k j) (built_by q) n),
      primary_same m b t.inv here fits scratch whole (owner k j),
    );
    scratch= = off (scratch_page m.root j) (omega (arith, fits));
    chain= = λ d o h r _.
        let e = only_mine j n d o h r in
        (changed_elsewhere t.inv.ghost.records here after d e, other_chain d e);
    reading = λ x e h. read_page (party_at m.parties j).chain x h;
    spare = λ u. off (party_at m.parties j).other (let z = used_outside m b t.inv j (party_at m.parties j).other u in omega (arith, live_here));
  }

  -- ---- The pages

  change : ChangeMade entered.operation (me t).key (t.inv.ghost.records here) (me t).answer after
  change =
      change_made (me t).key (me t).setting (t.inv.ghost.records here) (me t).answer after entered.operation (me t).operation t.busy.same_operation t.busy.same_setting
      (subst (λ (n : ℕ). has_step (me t).operation n ≡ true) t.is_at t.busy.step_fits) facts.change

  free_then : ghost_then.held free ≡ t.inv.ghost.held free
  free_then = held_kept free (kinds_apart free (in_chain here) refl) (kinds_apart free (old_of q) refl) (kinds_apart free (built_by q) refl)

  each_chain : (d : ℕ) → Cmp d here → d < size m.root.originals t.inv.ghost.live
      → ChainIs m.root.capacity pages_then d (local_level m.root.originals t.inv.ghost.live d) (ghost_then.records d) (ghost_then.held (in_chain d))
  each_chain d (same e) l =
      subst (λ (k : ℕ). ChainIs m.root.capacity pages_then k (local_level m.root.originals t.inv.ghost.live k) (ghost_then.records k) (ghost_then.held (in_chain k))) (sym e)
      (rw (changed_here t.inv.ghost.records here after here refl, anew_chain t.inv.ghost.held here q) chain_then)
  each_chain d (diff n) l =
      rw (changed_elsewhere t.inv.ghost.records here after d n, other_chain d n)
      (written_beside m b t.inv here fits scratch whole d _ (t.inv.ghost.records d) (in_chain d) n (t.inv.pages_ok.chain d l))

  -- Each key is the operation's or was there before.
  each_homed : (d : ℕ) → Cmp d here → d < size m.root.originals t.inv.ghost.live → (k : ℕ) → has_key k (ghost_then.records d) ≡ true
      → hash m.root.originals (local_level m.root.originals t.inv.ghost.live d) k ≡ d
  each_homed d (diff n) l k h = t.inv.pages_ok.homed d l k (rw (changed_elsewhere t.inv.ghost.records here after d n) at h)
  each_homed d (same e) l k h = subst (λ (c : ℕ). hash m.root.originals (local_level m.root.originals t.inv.ghost.live c) k ≡ c) (sym e) (go (cmp k (me t).key))
    where
      has_then : has_key k after ≡ true
      has_then = ap (has_key k) (sym (changed_here t.inv.ghost.records here after d e)) ∙ h

      go : Cmp k (me t).key → hash m.root.originals level k ≡ here
      go (same s) =
          ap (λ (x : ℕ). hash m.root.originals level x) s ∙ ap (λ (x : ℕ). hash m.root.originals x (me t).key) (sym facts.at_home.exact) ∙ facts.at_home.heads.there
      go (diff n) = t.inv.pages_ok.homed here live_here k (sym (keys_kept change k n) ∙ has_then)

  unused_before : (d : ℕ) → ((j : ℕ) → uses (party_at (set m.parties q then_party) j) d ≡ false) → (j : ℕ) → Cmp j q → uses (party_at m.parties j) d ≡ false
  unused_before d u j (same e) = rw e (uses_none t refl d)
  unused_before d u j (diff n) = rw (row_other m.parties q j then_party n) at (u j)

  pages_ok_then : PagesOk m.root (set m.parties q then_party) pages_then ghost_then
  pages_ok_then =
      let ok = t.inv.pages_ok in
      record {
        owned = owned_anew ok.owned here q facts.nothing_old.no_old;
        kinds = λ x. kinds_anew ok.owned here q x (ok.kinds x);
        beyond = λ d l. other_chain d (omega (arith, live_here)) ∙ ok.beyond d l;
        head_is = ok.head_is ∙ ap link_to_first (sym free_then);
        free_count = ok.free_count ∙ ap length (sym free_then);
        free_pages_ok = rw free_then (free_beside m b t.inv here fits scratch whole);
        chain = λ d l. each_chain d (cmp d here) l;
        ascends = λ d l. ascends_then d l (cmp d here);
        homed = λ d l. each_homed d (cmp d here) l;
        dead = λ d far r u. off d (omega (arith, live_here)) ∙ ok.dead d far r (λ j. unused_before d u j (cmp j q));
      }
    where
      ascends_then : (d : ℕ) → d < size m.root.originals t.inv.ghost.live → Cmp d here → ascending (ghost_then.records d) ≡ true
      ascends_then d l (same e) = rw (changed_here t.inv.ghost.records here after d e) (change_ascends change (t.inv.pages_ok.ascends here live_here))
      ascends_then d l (diff n) = rw (changed_elsewhere t.inv.ghost.records here after d n) (t.inv.pages_ok.ascends d l)

  -- ---- The book

  home : ℕ → ℕ
  home k = address_of m.root.originals t.inv.ghost.live.level t.inv.ghost.live.next k

  home_here : home (me t).key ≡ here
  unfolding home
  home_here =
      home_is m.root.originals t.inv.ghost.live here (me t).lev (me t).key t.inv.limits.some_original (omega (arith, t.inv.extents_ok.live_next)) facts.at_home.heads facts.at_home.exact

  -- The book has of the operation's key what the chain has.
  was_there : setting_in entered.key b.contents ≡ setting_in (me t).key (t.inv.ghost.records here)
  unfolding home
  was_there =
      ap (λ (k : ℕ). setting_in k b.contents) t.busy.same_key ∙ t.inv.book_ok.same (me t).key ∙ ap (λ (c : ℕ). setting_in (me t).key (t.inv.ghost.records c)) home_here

  book_ok_then : BookOk m.root ghost_then book_then_ok
  unfolding home
  book_ok_then = record {
    ascends = ascends_eleven entered.operation entered.key b.contents t.inv.book_ok.ascends;
    same = λ k. setting_eleven entered.operation entered.key b.contents k ∙ go k (cmp k entered.key) (cmp (home k) here);
  }
    where
      go : (k : ℕ) → Cmp k entered.key → Cmp (home k) here
          → cond (eqb k entered.key) (setting_after entered.operation (setting_in entered.key b.contents)) (setting_in k b.contents) ≡ setting_in k (ghost_then.records (home k))
      go k (same e) h =
          let mine : k ≡ (me t).key = e ∙ t.busy.same_key in
          let there : home k ≡ here = ap home mine ∙ home_here in
          rw (eqb_same k entered.key e, changed_here t.inv.ghost.records here after (home k) there, change_settings change k, eqb_same k (me t).key mine)
          (ap (setting_after entered.operation) was_there)
      go k (diff n) (same h) =
          rw (eqb-diff k entered.key n, changed_here t.inv.ghost.records here after (home k) h)
          (t.inv.book_ok.same k ∙ ap (λ (c : ℕ). setting_in k (t.inv.ghost.records c)) h
          ∙ sym (change_settings change k ∙ (rw (eqb-diff k (me t).key (λ e. n (e ∙ sym t.busy.same_key))))))
      go k (diff n) (diff h) =
          rw (eqb-diff k entered.key n, changed_elsewhere t.inv.ghost.records here after (home k) h) (t.inv.book_ok.same k)

  -- The note is the answer: the key was in exactly where it was on the chain.
  noted_then : entry_then.note ≡ some (answer_of (me t).answer)
  noted_then =
      ap some (ap (note_at_eleven entered.operation) (has_same entered.key (me t).key b.contents (t.inv.ghost.records here) was_there) ∙ change.noted)

  -- ---- The party at 12

  leaving_then : Leaving then_scene q then_party entry_then
  leaving_then = record {
    noted = noted_then;
    made = change.made ∙ ap (λ (n : ℕ). cond (eqb n 2) 1 3) t.busy.same_operation;
    trash = record {
      link = facts.keeps_link ∙ ap link_to_first (sym (anew_old t.inv.ghost.held here q));
      linked = rw (anew_old t.inv.ghost.held here q) (old_linked m b t.inv here fits scratch whole live_here);
    };
    no_partner = own_kept (partner_of q) refl refl refl ∙ facts.nothing_old.no_partner;
    nothing_built = record { no_built = anew_built t.inv.ghost.held here q; no_new = own_kept (new_by q) refl refl refl ∙ facts.no_new };
  }
    where
      own_kept : (o : Owner) → eqb o.kind 2 ≡ false → eqb o.kind 3 ≡ false → eqb o.kind 5 ≡ false → ghost_then.held o ≡ t.inv.ghost.held o
      own_kept o a d e = held_kept o (kinds_apart o (in_chain here) a) (kinds_apart o (old_of q) d) (kinds_apart o (built_by q) e)

  self_then : PartyOk then_scene q then_party
  unfolding has_step
  self_then =
      let k = t.busy in
      working entry_then
      (record {
        entry = changed_here b.entries q (some entry_then) q refl;
        same_operation = k.same_operation;
        same_setting = k.same_setting;
        same_key = k.same_key;
        step_fits = has_step_ok t;
        lev_fits = k.lev_fits;
        owed_fits_ok = k.owed_fits_ok;
        answer_fits = k.answer_fits;
        answer_set = λ _ z. some_answer (eqb (me t).operation 2) (sym leaving_then.made ∙ z);
        chain_fits = k.chain_fits;
        other_fits = k.other_fits;
      })
      (made_change leaving_then (rw facts.owed_is (owed_may (me t).operation _ _ after (has_step_ok t))))
    where
      some_answer : (x : Bool) → cond {A = ℕ} x 1 3 ≢ 0
      some_answer true e = omega arith
      some_answer false e = omega arith

  parts_then : Parts m b t.inv q m.root m.locks pages_then then_party book_then_ok ghost_then
  unfolding restructures claims mode_of
  parts_then = record {
    sizes = same_limits m.root;
    pages_many = primary_long m b t.inv here fits scratch whole;
    extents = extents_rest t (record { sizes = same_sizes m.root; live= = refl; low= = refl }) then_party refl refl;
    locks = locks_stay m.root m.parties q then_party (row_long t) (sym (its_claims t)) t.inv.locks_ok;
    pages = pages_ok_then;
    book = book_ok_then;
    self = self_then;
    others = keeps_others;
  }

  pub step11-kept : Kept m b q (step11 (view_of m q))
  unfolding step11 primary_written note_for note_step
  step11-kept = rw scratch_sound (moved-kept t (rw (t.busy.entry, t.is_at) refl) parts_then)
