-- Step 28 keeps the invariant: the joined chain is written over the target, and the file is one chain shorter.
-- Main statement: step28-kept.
use mathlib.Core.Path.{◌≡◌, refl, sym, ap, ◌∙◌, subst, subst₃, subst₂}
use mathlib.Core.Logic.{◌≢◌, ◌⊎◌, inl, inr}
use mathlib.Core.Bool.{Bool, true, false, false≢true, cond}
use mathlib.Core.List.{List, [], ◌∷◌}
use mathlib.Core.Option.{Option}
use Prim.Native.Nat.{ℕ, suc, ◌+◌, ◌-◌, ◌≤◌, ◌<◌}
use native.Mathlib.Omega.{arith}
use lib.ListN.{length, set, drop}
use lib.Dec.{eqb}
use Rattle.model.specs.declared.Party.{Party}
use Rattle.model.specs.declared.Mode.{Mode}
use Rattle.model.specs.declared.Mode.TheVariants.{Exclusive}
use Rattle.model.specs.Sizes.{page_words}
use Rattle.model.specs.Records.{at_step}
use Rattle.model.specs.LockWords.{chain_word}
use Rattle.model.specs.Addresses.{span, hash, address_of}
use Rattle.model.specs.declared.Entry.{Entry}
use Rattle.model.specs.Entries.{has_key, ascending, joined, setting_in}
use Rattle.model.specs.Pages.{page_of, with_page, level_of, link_of, scratch_page, primary_page, link_to_first, page_sound, zero_page, with_local_level}
use Rattle.model.specs.Filling.{primary_of}
use Rattle.model.specs.Memory.{Memory, party_at, view_of}
use Rattle.model.specs.Book.{Book, Entered, changed_at, Value}
use Rattle.model.specs.LockRequests.{chain_exclusive, root_selective, other_exclusive}
use Rattle.model.specs.Steps.MergeWrite.{step28}
use Rattle.model.specs.Steps.Dispatch.{has_step}
use Rattle.model.proofs.Laws.Lists.{cond_ind, Cmp, same, diff, cmp, or_either, eqb_same, eqb-diff}
use Rattle.model.proofs.Laws.Pages.{length-with_local_level, with_local_level-filled_page}
use Rattle.model.proofs.Laws.Structure.{Overflow, ChainIs}
use Rattle.model.proofs.Laws.Filling.{chain_link, chain_sound, fits_page, one_page}
use Rattle.model.proofs.Laws.Reading.{held_overflow}
use Rattle.model.proofs.Laws.Entries.{setting_absent}
use Rattle.model.proofs.Laws.Joins.{has_joined, setting_joined, ascends_joined, length-joined}
use Rattle.model.proofs.Invariant.Ghost.{owner, in_chain, built_by, Extent, root_extent, size, advance, local_level, Ghost}
use Rattle.model.proofs.Invariant.Extents.{size_is, local_most, local_rest, key_home, away_absent}
use Rattle.model.proofs.Invariant.Advance.{advance_size, advance_other, advance_split, advance_made, hash_back, hash_back_made, split-hash, home_splits, home_other, home_split, home_made}
use Rattle.model.specs.Claims.{claims}
use Rattle.model.proofs.Invariant.Claims.{is_claimed, claimed}
use Rattle.model.proofs.Invariant.LockMoves.{locks_stay}
use Rattle.model.proofs.Invariant.Statement.{restructures, live_for, low_for, ExtentsOk, uses, PagesOk, BookOk, Scene, Protected, Building, Joined, MovedBack, Emptying, PartyOk, working}
use Rattle.model.proofs.Invariant.Frame.{StaysLive, Grows, Keeps, restructures_at_lem, named, later}
use Rattle.model.proofs.Invariant.Facts.{changed_here, changed_elsewhere, no_pages_held}
use Rattle.model.proofs.Invariant.Restructurer.{low_at, others_rest, using_restructures}
use Rattle.model.proofs.Invariant.Turn.{Turn, before, has_step_ok, its_claims, live_now, low-now, me, note_still, restructures-now, row_long, uses_none}
use Rattle.model.proofs.Effects.Kept.{Kept, row_same, row_other, extents_by_one, Parts, moved-kept}
use Rattle.model.proofs.Effects.OwnRecord.{same_limits, protected_row}
use Rattle.model.proofs.Effects.PrimaryPage.{held_exclusively, length_scratch, built_sound, built_level, primary_off, primary_same, primary_long, written_here, written_beside, free_beside}
use Rattle.model.proofs.Effects.Moves.{busy_onto}
use Rattle.model.proofs.Effects.ScratchPage.{protected_bounds}

module _ {m : Memory} {b : Book} {q : ℕ} (t : Turn m b q 28) where
  -- The target, and the partner, which leaves the file.
  abbrev here : ℕ
  here = (party_at m.parties q).chain

  abbrev gone : ℕ
  gone = (party_at m.parties q).other

  abbrev scratch : List ℕ
  scratch = page_of m.pages (scratch_page m.root q)

  abbrev originals : ℕ
  originals = m.root.originals

  abbrev entered : Entered
  entered = t.entered

  facts : Joined (before t) q (me t) entered
  facts = t.facts.0

  chains : MovedBack (before t) (me t)
  chains = t.facts.1

  mine : restructures (me t) ≡ true
  mine = restructures-now t

  -- ---- How far the file extends: by the root, one split less than before

  abbrev live : Extent
  live = t.inv.ghost.live

  abbrev back : Extent
  back = root_extent m.root

  live-is : live ≡ advance originals back
  unfolding live_for
  live-is = live_now t refl

  low-is : t.inv.ghost.low ≡ back
  unfolding low_for
  low-is = low-now t refl

  inside : back.next < span originals back.level
  inside = t.inv.extents_ok.root_next

  here_is : here ≡ back.next
  here_is = chains.target

  gone_is : gone ≡ size originals back
  unfolding size
  gone_is = chains.partner

  fits : here < m.root.primaries
  fits = t.busy.chain_fits

  longer : size originals live ≡ suc (size originals back)
  longer = ap (size originals) live-is ∙ advance_size originals back inside

  back_here : here < size originals back
  back_here = omega (arith, here_is, inside, size_is originals back)

  live_here : here < size originals live
  live_here = omega (arith, back_here, longer)

  live_gone : gone < size originals live
  live_gone = omega (arith, gone_is, longer)

  apart : here ≢ gone
  apart = omega (arith, back_here, gone_is)

  still_live : (d : ℕ) → d < size originals back → d < size originals live
  still_live d l = omega (arith, longer)

  local_here : local_level originals live here ≡ back.level + 1
  local_here = ap (λ (e : Extent). local_level originals e here) live-is ∙ ap (local_level originals (advance originals back)) here_is ∙ advance_split originals back inside

  local_gone : local_level originals live gone ≡ back.level + 1
  local_gone = ap (λ (e : Extent). local_level originals e gone) live-is ∙ ap (local_level originals (advance originals back)) gone_is ∙ advance_made originals back inside

  local_back : local_level originals back here ≡ back.level
  local_back = local_rest originals back here (omega (arith, here_is)) (omega (arith, here_is, inside))

  local_other : (d : ℕ) → d ≢ here → d < size originals back → local_level originals back d ≡ local_level originals live d
  local_other d n l = sym (ap (λ (e : Extent). local_level originals e d) live-is ∙ advance_other originals back inside d (λ e. n (e ∙ sym here_is)) l)

  -- ---- The page written

  abbrev both : List Entry
  both = joined (t.inv.ghost.records here) (t.inv.ghost.records gone)

  abbrev lowered : List ℕ
  lowered = with_local_level (level_of scratch - 1) scratch

  abbrev pages_then : List ℕ
  pages_then = with_page m.pages (primary_page here) lowered

  built : Building (before t) q (back.level + 1) both
  built = subst (λ (l : ℕ). Building (before t) q l both) local_here facts.joins

  scratch_sound : page_sound m.root scratch ≡ true
  scratch_sound = built_sound m b t.inv q (back.level + 1) both built (omega (arith, local_here, local_most t.inv here))

  scratch_level : level_of scratch ≡ back.level + 1
  scratch_level = built_level m b t.inv q (back.level + 1) both built

  not_lowest : eqb (level_of scratch) 0 ≡ false
  not_lowest = eqb-diff (level_of scratch) 0 (omega (arith, scratch_level))

  whole : length lowered ≡ page_words
  whole = length-with_local_level (level_of scratch - 1) scratch (length_scratch m b t.inv q t.in_row)

  lowered_is : lowered ≡ primary_of m.root.capacity back.level both (t.inv.ghost.held (built_by q))
  unfolding primary_of
  lowered_is =
      let down : level_of scratch - 1 ≡ back.level = omega (arith, scratch_level) in
      ap (λ (l : ℕ). with_local_level l scratch) down ∙ ap (with_local_level back.level) built.scratch_is ∙ with_local_level-filled_page back.level (back.level + 1) _ _

  off : (x : ℕ) → x ≢ here → page_of pages_then x ≡ page_of m.pages x
  off = primary_off m b t.inv here fits lowered whole

  chain_here : ChainIs m.root.capacity pages_then here back.level both (t.inv.ghost.held (built_by q))
  chain_here = written_here m b t.inv here fits lowered whole back.level both (built_by q) lowered_is built.built

  -- ---- Neither chain has an overflow page

  both_fit : length both ≤ m.root.capacity
  both_fit =
      fits_page m.root.capacity both
      (subst (λ (xs : List ℕ). Overflow m.root.capacity m.pages xs (drop m.root.capacity both)) facts.no_pages.nothing_built.no_built built.built)

  many : length both ≡ length (t.inv.ghost.records here) + length (t.inv.ghost.records gone)
  many = length-joined (t.inv.ghost.records here) (t.inv.ghost.records gone)

  here_bare : t.inv.ghost.held (in_chain here) ≡ []
  here_bare =
      one_page m.root.capacity m.pages (t.inv.ghost.held (in_chain here)) (t.inv.ghost.records here) (omega (arith, both_fit, many))
      (t.inv.pages_ok.chain here live_here).overflow

  gone_bare : t.inv.ghost.held (in_chain gone) ≡ []
  gone_bare =
      one_page m.root.capacity m.pages (t.inv.ghost.held (in_chain gone)) (t.inv.ghost.records gone) (omega (arith, both_fit, many))
      (t.inv.pages_ok.chain gone live_gone).overflow

  -- ---- Ghost and record afterwards

  abbrev then_party : Party
  then_party = at_step 29 (party_at m.parties q)

  abbrev row_then : List Party
  row_then = set m.parties q (at_step 29 (party_at m.parties q))

  -- No page changes hands. The partner's records are no part of the file any more, and stay.
  abbrev ghost_then : Ghost
  ghost_then = record {
    own = t.inv.ghost.own;
    held = t.inv.ghost.held;
    records = changed_at t.inv.ghost.records here both;
    live = root_extent m.root;
    low = root_extent m.root;
  }

  abbrev then_scene : Scene
  then_scene = record { root = m.root; parties = row_then; pages = pages_then; ghost = ghost_then; entries = b.entries }

  records_here : ghost_then.records here ≡ both
  records_here = changed_here t.inv.ghost.records here both here refl

  records_other : (d : ℕ) → d ≢ here → ghost_then.records d ≡ t.inv.ghost.records d
  records_other d n = changed_elsewhere t.inv.ghost.records here both d n

  -- ---- What others rely on

  claims_28 : claims m.root (me t) ≡ root_selective ∷ (chain_exclusive (me t) ∷ (other_exclusive (me t) ∷ []))
  claims_28 = its_claims t

  holds_here : claimed m.root m.parties (chain_word here) q Exclusive ≡ true
  holds_here =
      rw claims_28 (later root_selective (chain_exclusive (me t) ∷ (other_exclusive (me t) ∷ [])) (chain_word here) Exclusive (named (other_exclusive (me t) ∷ []) (chain_word here) Exclusive))

  holds_gone : claimed m.root m.parties (chain_word gone) q Exclusive ≡ true
  holds_gone =
      rw claims_28
      (later root_selective (chain_exclusive (me t) ∷ (other_exclusive (me t) ∷ [])) (chain_word gone) Exclusive
      (later (chain_exclusive (me t)) (other_exclusive (me t) ∷ []) (chain_word gone) Exclusive (named [] (chain_word gone) Exclusive)))

  -- Nobody else holds either chain.
  not_here : (j : ℕ) → j ≢ q → (d : ℕ) (o : Mode) → is_claimed (claims m.root (party_at m.parties j)) (chain_word d) o ≡ true → d ≢ here
  not_here = held_exclusively m b t.inv q here fits holds_here

  not_partner : (j : ℕ) → j ≢ q → (d : ℕ) (o : Mode) → is_claimed (claims m.root (party_at m.parties j)) (chain_word d) o ≡ true → d ≢ gone
  not_partner = held_exclusively m b t.inv q gone t.busy.other_fits holds_gone

  others_rest_here : (j : ℕ) → j ≢ q → restructures (party_at m.parties j) ≡ false
  others_rest_here = others_rest m b t.inv q mine

  -- Every other chain stays in the file, at its local level.
  stays-live : (d : ℕ) → d ≢ here → d ≢ gone → StaysLive originals live back d
  stays-live d x y l =
      let inside_back : d < size originals back = omega (arith, longer, gone_is) in
      (inside_back, omega (arith, local_other d x inside_back))

  grows : (j : ℕ) → j ≢ q → Grows (before t) then_scene (party_at m.parties j)
  grows j n = record {
    same_for_restructurer = λ h. absurd (false≢true (sym (others_rest_here j n) ∙ h));
    level_rises = λ _. omega arith;
    low_grows = λ _ d. rw low-is (λ l. (l, omega arith));
    live_grows = λ d o h. stays-live d (not_here j n d o h) (not_partner j n d o h);
    firm = λ d o h r l.
        let x = not_here j n d o h in
        local_other d x (stays-live d x (not_partner j n d o h) (l (others_rest_here j n))).0;
  }

  -- A page that a reader may walk stays, and stays protected.
  read_page : (d x : ℕ) → Protected (before t) d x → Protected then_scene d x × (page_of pages_then x ≡ page_of m.pages x)
  read_page d x h =
      (protected_row (before t) then_scene q then_party refl refl (row_long t) (λ y o. refl) d x h, off x (λ e. let z = protected_bounds m b t.inv q t.in_row d x h in omega (arith, fits)))

  keeps_others : (j : ℕ) → j ≢ q → Keeps (before t) then_scene j (party_at m.parties j)
  keeps_others j n =
      let p = party_at m.parties j in
      record {
        sizes = same_limits m.root;
        grows = grows j n;
        entry= = refl;
        ours = λ k a d. (refl, primary_same m b t.inv here fits lowered whole (owner k j));
        scratch= = off (scratch_page m.root j) (omega (arith, fits));
        chain= = λ d o h r l. (records_other d (not_here j n d o h), refl);
        reading = λ x e h. read_page p.chain x h;
        spare = λ u. absurd (false≢true (sym (others_rest_here j n) ∙ using_restructures p p.other u));
      }

  -- ---- The pages

  each_chain : (d : ℕ) → d < size originals back → Cmp d here → ChainIs m.root.capacity pages_then d (local_level originals back d) (ghost_then.records d) (ghost_then.held (in_chain d))
  each_chain d l (same e) =
      subst (λ (k : ℕ). ChainIs m.root.capacity pages_then k (local_level originals back k) (ghost_then.records k) (ghost_then.held (in_chain k))) (sym e)
      (subst₃ (λ (j : ℕ) (es : List Entry) (xs : List ℕ). ChainIs m.root.capacity pages_then here j es xs) (sym local_back) (sym records_here) (facts.no_pages.nothing_built.no_built ∙ sym here_bare) chain_here)
  each_chain d l (diff n) =
      subst₂ (λ (j : ℕ) (es : List Entry). ChainIs m.root.capacity pages_then d j es (t.inv.ghost.held (in_chain d))) (sym (local_other d n l)) (sym (records_other d n))
      (written_beside m b t.inv here fits lowered whole d _ (t.inv.ghost.records d) (in_chain d) n (t.inv.pages_ok.chain d (still_live d l)))

  -- The two chains have no key in common: a key has one home.
  none_shared : (k : ℕ) → has_key k (t.inv.ghost.records here) ≡ true → has_key k (t.inv.ghost.records gone) ≡ false
  none_shared k h = away_absent t.inv gone live_gone k (λ e. apart (sym (key_home t.inv here live_here k h) ∙ e))

  ascends_both : ascending both ≡ true
  ascends_both =
      ascends_joined (t.inv.ghost.records here) (t.inv.ghost.records gone) (t.inv.pages_ok.ascends here live_here) (t.inv.pages_ok.ascends gone live_gone) none_shared

  each_ascends : (d : ℕ) → d < size originals back → Cmp d here → ascending (ghost_then.records d) ≡ true
  each_ascends d l (same e) = ap (λ (k : ℕ). ascending (ghost_then.records k)) e ∙ ap ascending records_here ∙ ascends_both
  each_ascends d l (diff n) = ap ascending (records_other d n) ∙ t.inv.pages_ok.ascends d (still_live d l)

  -- A key of either chain is led to the target by one bit less.
  homed_both : (k : ℕ) → has_key k both ≡ true → hash originals back.level k ≡ here
  homed_both k h = go (or_either (has_key k (t.inv.ghost.records here)) (has_key k (t.inv.ghost.records gone)) (sym (has_joined k (t.inv.ghost.records here) (t.inv.ghost.records gone)) ∙ h)) ∙ sym here_is
    where
      go : (has_key k (t.inv.ghost.records here) ≡ true) ⊎ (has_key k (t.inv.ghost.records gone) ≡ true) → hash originals back.level k ≡ back.next
      go (inl x) =
          hash_back originals back inside t.inv.limits.some_original k
          (ap (λ (j : ℕ). hash originals j k) (sym local_here) ∙ t.inv.pages_ok.homed here live_here k x ∙ here_is)
      go (inr x) =
          hash_back_made originals back inside t.inv.limits.some_original k
          (ap (λ (j : ℕ). hash originals j k) (sym local_gone) ∙ t.inv.pages_ok.homed gone live_gone k x ∙ gone_is)

  each_homed : (d : ℕ) → d < size originals back → Cmp d here → (k : ℕ) → has_key k (ghost_then.records d) ≡ true → hash originals (local_level originals back d) k ≡ d
  each_homed d l (same e) k h =
      ap (λ (c : ℕ). hash originals (local_level originals back c) k) e ∙ ap (λ (j : ℕ). hash originals j k) local_back
      ∙ homed_both k (sym (ap (has_key k) (ap ghost_then.records e ∙ records_here)) ∙ h) ∙ sym e
  each_homed d l (diff n) k h =
      ap (λ (j : ℕ). hash originals j k) (local_other d n l) ∙ t.inv.pages_ok.homed d (still_live d l) k (sym (ap (has_key k) (records_other d n)) ∙ h)

  -- Outside the shorter file no chain has pages.
  each_beyond : (d : ℕ) → size originals back ≤ d → Cmp d gone → ghost_then.held (in_chain d) ≡ []
  each_beyond d far (same e) = ap (λ (k : ℕ). ghost_then.held (in_chain k)) e ∙ gone_bare
  each_beyond d far (diff n) = t.inv.pages_ok.beyond d (omega (arith, longer, gone_is))

  uses_gone : uses then_party gone ≡ true
  unfolding uses
  uses_gone = eqb_same gone gone refl

  unused_before : (d : ℕ) → ((j : ℕ) → uses (party_at row_then j) d ≡ false) → (j : ℕ) → Cmp j q → uses (party_at m.parties j) d ≡ false
  unused_before d u j (same e) = rw e (uses_none t refl d)
  unused_before d u j (diff n) = rw (row_other m.parties q j then_party n) at (u j)

  each_dead : (d : ℕ) → size originals back ≤ d → d < m.root.primaries → ((j : ℕ) → uses (party_at row_then j) d ≡ false) → page_of pages_then (primary_page d) ≡ zero_page
  each_dead d far r u = off d (omega (arith, back_here)) ∙ t.inv.pages_ok.dead d (omega (arith, longer, gone_is, unlike)) r (λ j. unused_before d u j (cmp j q))
    where
      unlike : d ≢ gone
      unlike e =
          let free_of_it : uses then_party gone ≡ false = subst (λ (k : ℕ). uses then_party k ≡ false) e (rw (row_same m.parties q then_party (row_long t)) at (u q)) in
          false≢true (sym free_of_it ∙ uses_gone)

  pages_ok_then : PagesOk m.root row_then pages_then ghost_then
  pages_ok_then =
      let ok = t.inv.pages_ok in
      record {
        owned = ok.owned;
        kinds = ok.kinds;
        beyond = λ d l. each_beyond d l (cmp d gone);
        head_is = ok.head_is;
        free_count = ok.free_count;
        free_pages_ok = free_beside m b t.inv here fits lowered whole;
        chain = λ d l. each_chain d l (cmp d here);
        ascends = λ d l. each_ascends d l (cmp d here);
        homed = λ d l. each_homed d l (cmp d here);
        dead = each_dead;
      }

  -- ---- The book

  home : ℕ → ℕ
  home k = address_of originals live.level live.next k

  home_then : ℕ → ℕ
  home_then k = address_of originals back.level back.next k

  -- Each key's home has of it afterwards what it had before.
  same_settings : (k : ℕ) → Cmp (home_then k) here → setting_in k (ghost_then.records (home_then k)) ≡ setting_in k (t.inv.ghost.records (home k))
  unfolding home home_then
  same_settings k place = go place
    where
      -- Homes before, by the root's extent and one split more.
      was : (c : ℕ) → address_of originals (advance originals back).level (advance originals back).next k ≡ c → home k ≡ c
      was c e = ap (λ (x : Extent). address_of originals x.level x.next k) live-is ∙ e

      -- The key was at home on the target, or on the partner, and not on the other of the two.
      either : (c : ℕ) → home k ≡ c → cond (has_key k (t.inv.ghost.records here)) (setting_in k (t.inv.ghost.records here)) (setting_in k (t.inv.ghost.records gone)) ≡ setting_in k (t.inv.ghost.records c)
          → setting_in k (ghost_then.records here) ≡ setting_in k (t.inv.ghost.records (home k))
      either c e f =
          ap (setting_in k) records_here ∙ setting_joined k (t.inv.ghost.records here) (t.inv.ghost.records gone) (t.inv.pages_ok.ascends here live_here) none_shared ∙ f
          ∙ ap (λ (d : ℕ). setting_in k (t.inv.ghost.records d)) (sym e)

      at_here : home k ≡ here → setting_in k (ghost_then.records here) ≡ setting_in k (t.inv.ghost.records (home k))
      at_here e =
          let missing = setting_absent k (t.inv.ghost.records gone) (away_absent t.inv gone live_gone k (λ f. apart (sym e ∙ f))) in
          either here e
          (cond_ind (λ (x : Option Value). x ≡ setting_in k (t.inv.ghost.records here)) (has_key k (t.inv.ghost.records here)) _ _ (λ _. refl)
          (λ h. missing ∙ sym (setting_absent k (t.inv.ghost.records here) h)))

      at_gone : home k ≡ gone → setting_in k (ghost_then.records here) ≡ setting_in k (t.inv.ghost.records (home k))
      at_gone e =
          either gone e
          (ap (λ (x : Bool). cond x (setting_in k (t.inv.ghost.records here)) (setting_in k (t.inv.ghost.records gone))) (away_absent t.inv here live_here k (λ f. apart (sym f ∙ e))))

      from : hash originals back.level k ≡ back.next → Cmp (hash originals (back.level + 1) k) back.next
          → setting_in k (ghost_then.records here) ≡ setting_in k (t.inv.ghost.records (home k))
      from led (same s) = at_here (was here (home_split originals back inside t.inv.limits.some_original k s ∙ sym here_is))
      from led (diff d) =
          at_gone (was gone (home_made originals back inside t.inv.limits.some_original k (split-hash originals back inside t.inv.limits.some_original k led d) ∙ sym gone_is))

      go : Cmp (home_then k) here → setting_in k (ghost_then.records (home_then k)) ≡ setting_in k (t.inv.ghost.records (home k))
      go (diff n) =
          ap (setting_in k) (records_other (home_then k) n)
          ∙ ap (λ (c : ℕ). setting_in k (t.inv.ghost.records c)) (sym (was (home_then k) (home_other originals back inside t.inv.limits.some_original k (λ e. n (e ∙ sym here_is)))))
      go (same e) =
          ap (λ (c : ℕ). setting_in k (ghost_then.records c)) e
          ∙ from (home_splits originals back inside t.inv.limits.some_original k (e ∙ here_is)) (cmp (hash originals (back.level + 1) k) back.next)

  book_ok_then : BookOk m.root ghost_then b
  unfolding home home_then
  book_ok_then = record { ascends = t.inv.book_ok.ascends; same = λ k. t.inv.book_ok.same k ∙ sym (same_settings k (cmp (home_then k) here)) }

  -- ---- The party at 29

  emptying_then : Emptying then_scene q then_party entered
  unfolding link_to_first
  emptying_then =
      let partner = t.inv.pages_ok.chain gone live_gone in
      let unwritten : page_of pages_then (primary_page gone) ≡ page_of m.pages (primary_page gone) = off gone (λ e. apart (sym e)) in
      record {
        settled = record { noted = facts.noted; made = facts.made; no_pages = no_pages_held (before t) then_scene q refl facts.no_pages };
        one_page = here_bare;
        no_old_link = facts.keeps_link ∙ ap link_to_first here_bare;
        partner_sound = ap (page_sound m.root) unwritten
            ∙ chain_sound m.root m.pages gone _ (t.inv.ghost.records gone) (t.inv.ghost.held (in_chain gone)) partner (held_overflow m.root t.inv.pages_ok.owned (in_chain gone)) (local_most t.inv gone);
        partner_link = ap link_of unwritten
            ∙ chain_link m.root.capacity m.pages gone _ (t.inv.ghost.records gone) (t.inv.ghost.held (in_chain gone)) partner ∙ ap link_to_first gone_bare;
      }

  self_then : PartyOk then_scene q then_party
  unfolding has_step
  self_then =
      working entered (busy_onto t 29 (has_step_ok t) (omega arith) then_scene refl refl (me t).old)
      (emptying_then, record { target = chains.target; partner = chains.partner; room = chains.room })

  extents_then : ExtentsOk m.root row_then ghost_then
  unfolding live_for
  extents_then =
      let ok = t.inv.extents_ok in
      extents_by_one t refl
      (record {
        still = restructures_at_lem then_party 29 refl;
        live = refl;
        low = sym (low_at m.root then_party 29 refl refl);
        live_next = ok.root_next;
        live_fits = ok.root_fits;
        root_next = ok.root_next;
        root_fits = ok.root_fits;
      })

  parts_then : Parts m b t.inv q m.root m.locks pages_then then_party b ghost_then
  unfolding claims
  parts_then = record {
    sizes = same_limits m.root;
    pages_many = primary_long m b t.inv here fits lowered whole;
    extents = extents_then;
    locks = locks_stay m.root m.parties q then_party (row_long t) (sym claims_28) t.inv.locks_ok;
    pages = pages_ok_then;
    book = book_ok_then;
    self = self_then;
    others = keeps_others;
  }

  pub step28-kept : Kept m b q (step28 (view_of m q))
  unfolding step28
  step28-kept = rw (scratch_sound, not_lowest) (moved-kept t (note_still t refl) parts_then)
