-- Step 18 keeps the invariant: the old chain's primary page is written, and the file is one chain longer.
-- Main statement: step18-kept.
use mathlib.Core.Path.{◌≡◌, refl, sym, ap, ◌∙◌, subst, subst₃}
use mathlib.Core.Logic.{◌≢◌}
use mathlib.Core.Bool.{Bool, true, false, not, ◌||◌, false≢true, and-false, cond}
use mathlib.Core.List.{List, [], ◌∷◌}
use mathlib.Core.Option.{Option, none}
use Prim.Native.Nat.{ℕ, suc, ◌+◌, ◌≤◌, ◌<◌}
use native.Mathlib.Omega.{arith}
use lib.ListN.{length, set}
use lib.Dec.{eqb}
use Rattle.model.specs.declared.Party.{Party}
use Rattle.model.specs.declared.Mode.{Mode}
use Rattle.model.specs.declared.Mode.TheVariants.{Read, Selective}
use Rattle.model.specs.Sizes.{page_words}
use Rattle.model.specs.Records.{at_step}
use Rattle.model.specs.LockWords.{chain_word}
use Rattle.model.specs.Addresses.{span, hash, address_of}
use Rattle.model.specs.declared.Entry.{Entry}
use Rattle.model.specs.Entries.{has_key, ascending, staying, going, setting_in}
use Rattle.model.specs.Pages.{page_of, with_page, scratch_page, primary_page, link_to_first, page_sound}
use Rattle.model.specs.Memory.{Memory, party_at, view_of}
use Rattle.model.specs.Book.{Book, Entered, changed_at, Value}
use Rattle.model.specs.Holds.{same_mode}
use Rattle.model.specs.LockRequests.{chain_selective, root_selective}
use Rattle.model.specs.ScratchPages.{primary_written}
use Rattle.model.specs.Steps.SplitWrite.{step18}
use Rattle.model.specs.Steps.Dispatch.{has_step}
use Rattle.model.proofs.Laws.Lists.{Cmp, same, diff, cmp, and_both, not-true, eqb-true, eqb-false, eqb_same, eqb-diff}
use Rattle.model.proofs.Laws.Structure.{ChainIs}
use Rattle.model.proofs.Laws.Halves.{has_staying, has_going, ascends_staying, ascends_going, setting_staying, setting_going}
use Rattle.model.proofs.Invariant.Ghost.{owner, nobody, free, in_chain, partner_of, built_by, new_by, Extent, root_extent, size, advance, local_level, Ghost}
use Rattle.model.proofs.Invariant.Owners.{kinds_apart, indices_apart}
use Rattle.model.proofs.Invariant.Handing.{own_also, held_also, Also, beside_chain, beside_party, beside_kind, also_to, also_from, also_chain, also_old, also_built, also_other, owned_also, own_also_old, own_also_other, kinds_also}
use Rattle.model.proofs.Invariant.Extents.{size_is, level_fits, local_rest, advance_grows}
use Rattle.model.proofs.Invariant.Advance.{advance_size, advance_fits, advance_other, advance_split, advance_made, split-hash, home_inside, home_splits, home_other, home_split, home_made}
use Rattle.model.specs.Claims.{claims}
use Rattle.model.proofs.Invariant.Claims.{is_claimed, claimed}
use Rattle.model.proofs.Invariant.LockMoves.{locks_stay}
use Rattle.model.proofs.Invariant.Statement.{restructures, live_for, ExtentsOk, uses, PagesOk, BookOk, Scene, Protected, Divided, Building, Leaving, PartyOk, working, low_for}
use Rattle.model.proofs.Invariant.Frame.{Grows, Keeps, restructures_at_lem, named, later}
use Rattle.model.proofs.Invariant.Facts.{used_outside, changed_here, changed_elsewhere}
use Rattle.model.proofs.Invariant.Restructurer.{low_at, others_rest}
use Rattle.model.proofs.Invariant.Turn.{Turn, before, has_step_ok, its_claims, live_now, low-now, me, note_still, restructures-now, row_long}
use Rattle.model.proofs.Effects.Kept.{Kept, row_other, row_chain, extents_by_one, Parts, moved-kept}
use Rattle.model.proofs.Effects.OwnRecord.{same_limits}
use Rattle.model.proofs.Effects.PrimaryPage.{held_alone, length_scratch, built_sound, primary_off, primary_same, primary_long, written_here, written_beside, old_linked, free_beside, read_beside}
use Rattle.model.proofs.Effects.Moves.{busy_onto}

module _ {m : Memory} {b : Book} {q : ℕ} (t : Turn m b q 18) where
  abbrev here : ℕ
  here = (party_at m.parties q).chain

  abbrev new : ℕ
  new = (party_at m.parties q).other

  abbrev scratch : List ℕ
  scratch = page_of m.pages (scratch_page m.root q)

  abbrev originals : ℕ
  originals = m.root.originals

  abbrev entered : Entered
  entered = t.entered

  facts : Divided (before t) q (me t) entered
  facts = t.facts

  mine : restructures (me t) ≡ true
  mine = restructures-now t

  -- ---- How far the file extends

  abbrev live : Extent
  live = t.inv.ghost.live

  abbrev further : Extent
  further = advance m.root.originals t.inv.ghost.live

  live-is : live ≡ root_extent m.root
  unfolding live_for
  live-is = live_now t refl

  low-is : t.inv.ghost.low ≡ live
  unfolding low_for
  low-is = low-now t refl ∙ sym (live_now t refl)

  level_is : live.level ≡ m.root.level
  level_is = ap (λ (x : Extent). x.level) live-is

  here_is : here ≡ live.next
  here_is = facts.chains.old_chain ∙ sym (ap (λ (x : Extent). x.next) live-is)

  new_is : new ≡ size originals live
  unfolding size
  new_is = facts.chains.new_chain ∙ sym (ap (size originals) live-is)

  inside : live.next < span originals live.level
  inside = t.inv.extents_ok.live_next

  fits : here < m.root.primaries
  fits = t.busy.chain_fits

  live_here : here < size originals live
  live_here = omega (arith, here_is, inside, size_is originals live)

  apart : here ≢ new
  apart = omega (arith, live_here, new_is)

  longer : size originals further ≡ suc (size originals live)
  longer = advance_size originals live inside

  local_here : local_level originals further here ≡ live.level + 1
  local_here = ap (local_level originals further) here_is ∙ advance_split originals live inside

  local_new : local_level originals further new ≡ live.level + 1
  local_new = ap (local_level originals further) new_is ∙ advance_made originals live inside

  local_other : (d : ℕ) → d ≢ here → d < size originals live → local_level originals further d ≡ local_level originals live d
  local_other d n l = advance_other originals live inside d (λ e. n (e ∙ sym here_is)) l

  -- ---- The page written

  abbrev pages_then : List ℕ
  pages_then = with_page m.pages (primary_page here) scratch

  whole : length scratch ≡ page_words
  whole = length_scratch m b t.inv q t.in_row

  off : (x : ℕ) → x ≢ here → page_of pages_then x ≡ page_of m.pages x
  off = primary_off m b t.inv here fits scratch whole

  abbrev stays : List Entry
  stays = staying m.root.originals (t.inv.ghost.live.level + 1) here (t.inv.ghost.records here)

  abbrev goes : List Entry
  goes = going m.root.originals (t.inv.ghost.live.level + 1) here (t.inv.ghost.records here)

  half : Building (before t) q (live.level + 1) stays
  half = subst (λ (l : ℕ). Building (before t) q (l + 1) (staying originals (l + 1) here (t.inv.ghost.records here))) (sym level_is) facts.stay

  chain_here : ChainIs m.root.capacity pages_then here (live.level + 1) stays (t.inv.ghost.held (built_by q))
  chain_here = written_here m b t.inv here fits scratch whole (live.level + 1) stays (built_by q) half.scratch_is half.built

  chain_new : ChainIs m.root.capacity pages_then new (live.level + 1) goes (t.inv.ghost.held (new_by q))
  chain_new =
      written_beside m b t.inv here fits scratch whole new (live.level + 1) goes (new_by q) (λ e. apart (sym e))
      (subst (λ (l : ℕ). ChainIs m.root.capacity m.pages new (l + 1) (going originals (l + 1) here (t.inv.ghost.records here)) (t.inv.ghost.held (new_by q))) (sym level_is) facts.go)

  scratch_sound : page_sound m.root scratch ≡ true
  scratch_sound =
      built_sound m b t.inv q (live.level + 1) stays half
      (omega (arith, level_fits originals live t.inv.limits.some_original (omega (arith, t.inv.extents_ok.live_fits, t.inv.limits.chains_fit_ok))))

  -- ---- Ghost and record afterwards

  abbrev then_party : Party
  then_party = at_step 19 (party_at m.parties q)

  abbrev row_then : List Party
  row_then = set m.parties q (at_step 19 (party_at m.parties q))

  abbrev ghost_then : Ghost
  ghost_then = record {
    own = own_also t.inv.ghost.own t.inv.ghost.held here q (new_by q) (in_chain new);
    held = held_also t.inv.ghost.held here q (new_by q) (in_chain new);
    records = changed_at (changed_at t.inv.ghost.records here stays) new goes;
    live = further;
    low = further;
  }

  abbrev then_scene : Scene
  then_scene = record { root = m.root; parties = row_then; pages = pages_then; ghost = ghost_then; entries = b.entries }

  -- The chain is written anew, and the pages of the new chain become those of a chain of the file.
  hands : Also t.inv.ghost.held here q (new_by q) (in_chain new)
  hands = record {
    from = beside_kind here q (new_by q) refl refl refl;
    to = beside_chain here q new (λ e. apart (sym e));
    two = kinds_apart (new_by q) (in_chain new) refl;
    from_some = kinds_apart (new_by q) nobody refl;
    to_some = kinds_apart (in_chain new) nobody refl;
    to_kind = omega arith;
    no_old = facts.nothing_old.no_old;
    to_none = t.inv.pages_ok.beyond new (omega (arith, new_is));
  }

  other_chain : (d : ℕ) → d ≢ new → d ≢ here → ghost_then.held (in_chain d) ≡ t.inv.ghost.held (in_chain d)
  other_chain d x y = also_other hands (in_chain d) (beside_chain here q d y) (kinds_apart (in_chain d) (new_by q) refl) (indices_apart (in_chain d) (in_chain new) x)

  other_party : (k j : ℕ) → 3 ≤ k → j ≢ q → ghost_then.held (owner k j) ≡ t.inv.ghost.held (owner k j)
  other_party k j l n = also_other hands (owner k j) (beside_party here q k j l n) (indices_apart (owner k j) (new_by q) n) (kinds_apart (owner k j) (in_chain new) (eqb-diff k 2 (omega arith)))

  free_then : ghost_then.held free ≡ t.inv.ghost.held free
  free_then = also_other hands free (beside_kind here q free refl refl refl) (kinds_apart free (new_by q) refl) (kinds_apart free (in_chain new) refl)

  records_new : ghost_then.records new ≡ goes
  records_new = changed_here (changed_at t.inv.ghost.records here stays) new goes new refl

  records_here : ghost_then.records here ≡ stays
  records_here = changed_elsewhere (changed_at t.inv.ghost.records here stays) new goes here apart ∙ changed_here t.inv.ghost.records here stays here refl

  records_other : (d : ℕ) → d ≢ new → d ≢ here → ghost_then.records d ≡ t.inv.ghost.records d
  records_other d x y = changed_elsewhere (changed_at t.inv.ghost.records here stays) new goes d x ∙ changed_elsewhere t.inv.ghost.records here stays d y

  not_new : (d : ℕ) → d < size originals live → d ≢ new
  not_new d l = omega (arith, new_is)

  -- A chain of the longer file is the new one, the old one, or one that was there before.
  data Place (d : ℕ) : Type 0 where
    at_new : d ≡ new → Place d
    at_here : d ≡ here → Place d
    elsewhere : d ≢ new → d ≢ here → d < size originals live → Place d

  place : (d : ℕ) → d < size originals further → Place d
  place d l = go (cmp d new) (cmp d here)
    where
      go : Cmp d new → Cmp d here → Place d
      go (same e) y = at_new e
      go (diff n) (same e) = at_here e
      go (diff n) (diff k) = elsewhere n k (omega (arith, longer, new_is))

  -- ---- What others rely on

  holds_here : claimed m.root m.parties (chain_word here) q Selective ≡ true
  holds_here = rw (its_claims t) (later root_selective (chain_selective (me t) ∷ []) (chain_word here) Selective (named [] (chain_word here) Selective))

  others_rest_here : (j : ℕ) → j ≢ q → restructures (party_at m.parties j) ≡ false
  others_rest_here = others_rest m b t.inv q mine

  -- Nobody else holds the chain but to read it.
  only_mine : (j : ℕ) → j ≢ q → (d : ℕ) (o : Mode) → is_claimed (claims m.root (party_at m.parties j)) (chain_word d) o ≡ true → same_mode o Read ≡ false → d ≢ here
  unfolding same_mode
  only_mine = held_alone m b t.inv q here Selective fits refl holds_here

  grows : (j : ℕ) → j ≢ q → Grows (before t) then_scene (party_at m.parties j)
  grows j n = record {
    same_for_restructurer = λ h. absurd (false≢true (sym (others_rest_here j n) ∙ h));
    level_rises = λ _. omega arith;
    low_grows = λ _ d. rw low-is (advance_grows originals live d);
    live_grows = λ d o _. advance_grows originals live d;
    firm = λ d o h r l. local_other d (only_mine j n d o h r) (l (others_rest_here j n));
  }

  read_page : (d x : ℕ) → Protected (before t) d x → Protected then_scene d x × (page_of pages_then x ≡ page_of m.pages x)
  read_page =
      read_beside m b t.inv here fits scratch whole then_scene refl q refl (own_also_old hands t.inv.pages_ok.owned)
      (λ x o l d. own_also_other hands t.inv.pages_ok.owned x o d (kinds_apart o (built_by q) (eqb-diff o.kind 5 (omega arith))) (kinds_apart o (new_by q) (eqb-diff o.kind 6 (omega arith))))
      (row_chain m.parties q then_party (row_long t) refl)

  keeps_others : (j : ℕ) → j ≢ q → Keeps (before t) then_scene j (party_at m.parties j)
  keeps_others j n = record {
    sizes = same_limits m.root;
    grows = grows j n;
    entry= = refl;
    ours = λ k a d. (other_party k j a n, primary_same m b t.inv here fits scratch whole (owner k j));
    scratch= = off (scratch_page m.root j) (omega (arith, fits));
    chain= = λ d o h r l.
        let x = not_new d (l (others_rest_here j n)) in
        let y = only_mine j n d o h r in
        (records_other d x y, other_chain d x y);
    reading = λ x e h. read_page (party_at m.parties j).chain x h;
    spare = λ u. off (party_at m.parties j).other (let z = used_outside m b t.inv j (party_at m.parties j).other u in omega (arith, live_here));
  }

  -- ---- The pages

  -- A key of the old chain was led there by h_level, and goes where h_(level+1) leads it.
  led_here : (k : ℕ) → has_key k (t.inv.ghost.records here) ≡ true → hash originals live.level k ≡ live.next
  led_here k h =
      let rest = local_rest originals live here (omega (arith, here_is)) (omega (arith, here_is)) in
      ap (λ (l : ℕ). hash originals l k) (sym rest) ∙ t.inv.pages_ok.homed here live_here k h ∙ here_is

  each_chain : (d : ℕ) → Place d → ChainIs m.root.capacity pages_then d (local_level originals further d) (ghost_then.records d) (ghost_then.held (in_chain d))
  each_chain d (at_new e) =
      subst (λ (k : ℕ). ChainIs m.root.capacity pages_then k (local_level originals further k) (ghost_then.records k) (ghost_then.held (in_chain k))) (sym e)
      (subst₃ (λ (l : ℕ) (es : List Entry) (xs : List ℕ). ChainIs m.root.capacity pages_then new l es xs) (sym local_new) (sym records_new) (sym (also_to hands)) chain_new)
  each_chain d (at_here e) =
      subst (λ (k : ℕ). ChainIs m.root.capacity pages_then k (local_level originals further k) (ghost_then.records k) (ghost_then.held (in_chain k))) (sym e)
      (subst₃ (λ (l : ℕ) (es : List Entry) (xs : List ℕ). ChainIs m.root.capacity pages_then here l es xs) (sym local_here) (sym records_here)
      (sym (also_chain hands)) chain_here)
  each_chain d (elsewhere x y l) =
      subst₃ (λ (k : ℕ) (es : List Entry) (xs : List ℕ). ChainIs m.root.capacity pages_then d k es xs) (sym (local_other d y l)) (sym (records_other d x y))
      (sym (other_chain d x y))
      (written_beside m b t.inv here fits scratch whole d _ (t.inv.ghost.records d) (in_chain d) y (t.inv.pages_ok.chain d l))

  each_ascends : (d : ℕ) → Place d → ascending (ghost_then.records d) ≡ true
  each_ascends d (at_new e) = ap (λ (k : ℕ). ascending (ghost_then.records k)) e ∙ ap ascending records_new ∙ ascends_going originals (live.level + 1) here (t.inv.ghost.records here) (t.inv.pages_ok.ascends here live_here)
  each_ascends d (at_here e) = ap (λ (k : ℕ). ascending (ghost_then.records k)) e ∙ ap ascending records_here ∙ ascends_staying originals (live.level + 1) here (t.inv.ghost.records here) (t.inv.pages_ok.ascends here live_here)
  each_ascends d (elsewhere x y l) = ap ascending (records_other d x y) ∙ t.inv.pages_ok.ascends d l

  homed_here : (k : ℕ) → has_key k stays ≡ true → hash originals (live.level + 1) k ≡ here
  homed_here k h =
      let up = live.level + 1 in
      let both = and_both (has_key k (t.inv.ghost.records here)) (eqb (hash originals up k) here) (sym (has_staying originals up here k (t.inv.ghost.records here)) ∙ h) in
      eqb-true (hash originals up k) here both.1

  homed_new : (k : ℕ) → has_key k goes ≡ true → hash originals (live.level + 1) k ≡ new
  homed_new k h =
      let up = live.level + 1 in
      let both = and_both (has_key k (t.inv.ghost.records here)) (not (eqb (hash originals up k) here)) (sym (has_going originals up here k (t.inv.ghost.records here)) ∙ h) in
      let left = eqb-false (hash originals up k) here (not-true (eqb (hash originals up k) here) both.1) in
      split-hash originals live inside t.inv.limits.some_original k (led_here k both.0) (λ e. left (e ∙ sym here_is)) ∙ sym new_is

  each_homed : (d : ℕ) → Place d → (k : ℕ) → has_key k (ghost_then.records d) ≡ true → hash originals (local_level originals further d) k ≡ d
  each_homed d (at_new e) k h =
      ap (λ (c : ℕ). hash originals (local_level originals further c) k) e ∙ ap (λ (l : ℕ). hash originals l k) local_new
      ∙ homed_new k (sym (ap (has_key k) (ap ghost_then.records e ∙ records_new)) ∙ h) ∙ sym e
  each_homed d (at_here e) k h =
      ap (λ (c : ℕ). hash originals (local_level originals further c) k) e ∙ ap (λ (l : ℕ). hash originals l k) local_here
      ∙ homed_here k (sym (ap (has_key k) (ap ghost_then.records e ∙ records_here)) ∙ h) ∙ sym e
  each_homed d (elsewhere x y l) k h =
      ap (λ (j : ℕ). hash originals j k) (local_other d y l) ∙ t.inv.pages_ok.homed d l k (sym (ap (has_key k) (records_other d x y)) ∙ h)

  -- Outside the longer file the party used no page.
  unused_before : (d : ℕ) → size originals further ≤ d → ((j : ℕ) → uses (party_at row_then j) d ≡ false) → (j : ℕ) → Cmp j q → uses (party_at m.parties j) d ≡ false
  unfolding uses
  unused_before d far u j (same e) = rw (e, eqb-diff new d (omega (arith, longer, new_is))) (and-false (eqb (me t).step 18 || eqb (me t).step 29))
  unused_before d far u j (diff n) = rw (row_other m.parties q j then_party n) at (u j)

  pages_ok_then : PagesOk m.root row_then pages_then ghost_then
  pages_ok_then =
      let ok = t.inv.pages_ok in
      record {
        owned = owned_also hands ok.owned;
        kinds = λ x. kinds_also hands ok.owned x (ok.kinds x);
        beyond = λ d l. other_chain d (omega (arith, longer, new_is)) (omega (arith, longer, live_here)) ∙ ok.beyond d (omega (arith, longer));
        head_is = ok.head_is ∙ ap link_to_first (sym free_then);
        free_count = ok.free_count ∙ ap length (sym free_then);
        free_pages_ok = rw free_then (free_beside m b t.inv here fits scratch whole);
        chain = λ d l. each_chain d (place d l);
        ascends = λ d l. each_ascends d (place d l);
        homed = λ d l. each_homed d (place d l);
        dead = λ d far r u. off d (omega (arith, longer, live_here)) ∙ ok.dead d (omega (arith, longer)) r (λ j. unused_before d far u j (cmp j q));
      }

  -- ---- The book

  home : ℕ → ℕ
  home k = address_of originals live.level live.next k

  home_then : ℕ → ℕ
  home_then k = address_of originals further.level further.next k

  -- Each key's home has of it afterwards what it had before.
  same_settings : (k : ℕ) → Cmp (home k) here → setting_in k (ghost_then.records (home_then k)) ≡ setting_in k (t.inv.ghost.records (home k))
  unfolding home home_then
  same_settings k (diff n) =
      let moved = home_other originals live inside t.inv.limits.some_original k (λ e. n (e ∙ sym here_is)) in
      ap (λ (c : ℕ). setting_in k (ghost_then.records c)) moved
      ∙ ap (setting_in k) (records_other (home k) (not_new (home k) (home_inside originals live inside t.inv.limits.some_original k)) n)
  same_settings k (same e) = go (cmp (hash originals (live.level + 1) k) here) ∙ ap (λ (c : ℕ). setting_in k (t.inv.ghost.records c)) (sym e)
    where
      led : hash originals live.level k ≡ live.next
      led = home_splits originals live inside t.inv.limits.some_original k (e ∙ here_is)

      was : Option Value
      was = setting_in k (t.inv.ghost.records here)

      go : Cmp (hash originals (live.level + 1) k) here → setting_in k (ghost_then.records (home_then k)) ≡ was
      go (same s) =
          let to : home_then k ≡ here = home_split originals live inside t.inv.limits.some_original k (s ∙ here_is) ∙ sym here_is in
          ap (λ (c : ℕ). setting_in k (ghost_then.records c)) to ∙ ap (setting_in k) records_here ∙ setting_staying originals (live.level + 1) here k (t.inv.ghost.records here)
          ∙ ap (λ (y : Bool). cond y was none) (eqb_same (hash originals (live.level + 1) k) here s)
      go (diff d) =
          let far = split-hash originals live inside t.inv.limits.some_original k led (λ s. d (s ∙ sym here_is)) in
          let to : home_then k ≡ new = home_made originals live inside t.inv.limits.some_original k far ∙ sym new_is in
          ap (λ (c : ℕ). setting_in k (ghost_then.records c)) to ∙ ap (setting_in k) records_new ∙ setting_going originals (live.level + 1) here k (t.inv.ghost.records here)
          ∙ ap (λ (y : Bool). cond (not y) was none) (eqb-diff (hash originals (live.level + 1) k) here d)

  book_ok_then : BookOk m.root ghost_then b
  unfolding home home_then
  book_ok_then = record { ascends = t.inv.book_ok.ascends; same = λ k. t.inv.book_ok.same k ∙ sym (same_settings k (cmp (home k) here)) }

  -- ---- The party at 19

  leaving_then : Leaving then_scene q then_party entered
  leaving_then = record {
    noted = facts.noted;
    made = facts.made;
    trash = record {
      link = facts.keeps_link ∙ ap link_to_first (sym (also_old hands));
      linked = rw (also_old hands) (old_linked m b t.inv here fits scratch whole live_here);
    };
    no_partner = also_other hands (partner_of q) (beside_kind here q (partner_of q) refl refl refl) (kinds_apart (partner_of q) (new_by q) refl) (kinds_apart (partner_of q) (in_chain new) refl)
        ∙ facts.nothing_old.no_partner;
    nothing_built = record { no_built = also_built hands; no_new = also_from hands };
  }

  self_then : PartyOk then_scene q then_party
  unfolding has_step
  self_then = working entered (busy_onto t 19 (has_step_ok t) (omega arith) then_scene refl refl (me t).old) leaving_then

  extents_then : ExtentsOk m.root row_then ghost_then
  unfolding live_for
  extents_then =
      let ok = t.inv.extents_ok in
      let far : further ≡ live_for m.root then_party = ap (advance originals) live-is in
      extents_by_one t refl
      (record {
        still = restructures_at_lem then_party 19 refl;
        live = far;
        low = far ∙ sym (low_at m.root then_party 19 refl refl);
        live_next = advance_fits originals live inside;
        live_fits = omega (arith, longer, new_is, t.busy.other_fits);
        root_next = ok.root_next;
        root_fits = ok.root_fits;
      })

  parts_then : Parts m b t.inv q m.root m.locks pages_then then_party b ghost_then
  unfolding claims
  parts_then = record {
    sizes = same_limits m.root;
    pages_many = primary_long m b t.inv here fits scratch whole;
    extents = extents_then;
    locks = locks_stay m.root m.parties q then_party (row_long t) (sym (its_claims t)) t.inv.locks_ok;
    pages = pages_ok_then;
    book = book_ok_then;
    self = self_then;
    others = keeps_others;
  }

  pub step18-kept : Kept m b q (step18 (view_of m q))
  unfolding step18 primary_written
  step18-kept = rw scratch_sound (moved-kept t (note_still t refl) parts_then)
