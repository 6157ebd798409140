-- Step 6 keeps the invariant.
-- Main statements: Chased, chase_ends and chased_heads (where a chase ends); noted_six (what the book notes); step06_moves, stayed_home (what it leaves, and where the key's home is); step06-kept.
use mathlib.Core.Path.{◌≡◌, refl, sym, ap, ◌∙◌, subst}
use mathlib.Core.Logic.{◌≢◌}
use mathlib.Core.Bool.{true, false, cond}
use mathlib.Core.List.{List, ◌++◌}
use mathlib.Core.Option.{some, Option}
use Prim.Native.Nat.{ℕ, zero, suc, ◌+◌, ◌-◌, ◌≤◌, ◌<◌}
use native.Mathlib.Omega.{arith}
use lib.ListN.{length, set, drop}
use lib.Dec.{eqb, leb}
use Rattle.model.specs.declared.Party.{Party}
use Rattle.model.specs.declared.Operation.{Operation}
use Rattle.model.specs.Sizes.{page_words}
use Rattle.model.specs.Records.{at_step, with_lev, with_chain, with_other}
use Rattle.model.specs.Answers.{operation_number, setting_given, found_or_absent}
use Rattle.model.specs.Mixing.{mixed}
use Rattle.model.specs.Addresses.{hash}
use Rattle.model.specs.Entries.{setting_in}
use Rattle.model.specs.Pages.{page_of, with_page, level_of, entries_of, page_sound, primary_page, scratch_page}
use Rattle.model.specs.Chains.{entries_on}
use Rattle.model.specs.Outcome.{moved, with_party}
use Rattle.model.specs.ScratchPages.{with_scratch}
use Rattle.model.specs.LockRequests.{mode_of}
use Rattle.model.specs.Steps.Chase.{Chase, chase, chase_of, arrived, chasing, step06}
use Rattle.model.specs.Steps.Dispatch.{has_step}
use Rattle.model.specs.Memory.{Memory, view_of}
use Rattle.model.specs.Book.{Book, Entered, changed_at, note_at_six, noted_if_find, note_step, note_for, Value}
use Rattle.model.proofs.Laws.Lists.{lt-ltb, le-leb, Told, holds, fails, tell, Cmp, same, diff, cmp, eqb_same, eqb-diff, eqb-true}
use Rattle.model.proofs.Laws.Pages.{length_page_of}
use Rattle.model.proofs.Laws.Structure.{ChainIs}
use Rattle.model.proofs.Laws.Filling.{overflow_linked, chain_level, chain_link, chain_entries, chain_sound}
use Rattle.model.proofs.Laws.Reading.{held_overflow}
use Rattle.model.proofs.Invariant.Ghost.{Extent, in_chain, size, local_level}
use Rattle.model.proofs.Invariant.Owners.{no_repeats, own_of_member}
use Rattle.model.specs.Claims.{claims}
use Rattle.model.proofs.Invariant.LockMoves.{locks_stay}
use Rattle.model.proofs.Invariant.Statement.{restructures, Scene, Early, Heads, Walking, in_chain_ok, Busy, PartyOk, working}
use Rattle.model.proofs.Invariant.Extents.{next_heads, home_is, local_most}
use Rattle.model.proofs.Invariant.Facts.{no_pages_held}
use Rattle.model.proofs.Invariant.Turn.{Turn, has_step_ok, owns_no_old, row_long, me, uses_none}
use Rattle.model.proofs.Effects.Kept.{Kept, moved-kept}
use Rattle.model.proofs.Effects.ScratchPage.{scratch_parts, copied_walks}
use Rattle.model.proofs.Effects.Moves.{extents_rest, same_file}

-- ---- Where a chase ends

-- From chain c, whose local level is top: on c with lev at top, or on the first chain other than c that a hash function up to top names.
pub data Chased (n k c top : ℕ) (t : Chase) : Type 0 where
  stayed : t.lev ≡ top → t.chain ≡ c → hash n top k ≡ c → Chased n k c top t
  left : (before : ℕ) → t.lev ≡ before + 1 → t.chain ≡ hash n (before + 1) k → hash n before k ≡ c → hash n (before + 1) k ≢ c → before + 1 ≤ top → Chased n k c top t

pub chase_ends : (n k c d lev top : ℕ) → lev + d ≡ top → hash n lev k ≡ c → Chased n k c top (chase n (mixed k) c d lev)
unfolding chase
chase_ends n k c zero lev top e h = let l : lev ≡ top = omega arith in stayed l refl (ap (λ (x : ℕ). hash n x k) (sym l) ∙ h)
chase_ends n k c (suc d) lev top e h = go (cmp (hash n (lev + 1) k) c) (λ s. chase_ends n k c d (lev + 1) top (omega arith) s)
  where
    go : Cmp (hash n (lev + 1) k) c → (hash n (lev + 1) k ≡ c → Chased n k c top (chase n (mixed k) c d (lev + 1)))
        → Chased n k c top (cond (eqb (hash n (lev + 1) k) c) (chase n (mixed k) c d (lev + 1)) (record { lev = lev + 1; chain = hash n (lev + 1) k }))
    go (same s) ih = rw (eqb_same (hash n (lev + 1) k) c s) (ih s)
    go (diff s) ih = rw (eqb-diff (hash n (lev + 1) k) c s) (left lev refl refl h s (omega arith))

-- The chain that it ends on is live, and its local level is as far.
pub chased_heads : (n : ℕ) (e : Extent) (k c : ℕ) (t : Chase) → 0 < n → c < size n e → Chased n k c (local_level n e c) t → Heads n e t.chain t.lev k
chased_heads n e k c t pos inside (stayed l s h) =
    record { inside = rw s inside; there = ap (λ (x : ℕ). hash n x k) l ∙ h ∙ sym s; reach = omega (arith, l, ap (local_level n e) s) }
chased_heads n e k c t pos inside (left j l s h d r) =
    let x = next_heads n e k pos j (rw h inside) (rw h r) in
    record { inside = rw s x.inside; there = ap (λ (y : ℕ). hash n y k) l ∙ sym s; reach = omega (arith, l, x.reach, ap (local_level n e) s) }

-- ---- What the book notes at 6

-- From book b to book c the entry of party q stays but for its note, which for a find says what the book has of the key.
pub record NotedSix (b c : Book) (q : ℕ) (e : Entered) : Type 0 where
  pub contents= : c.contents ≡ b.contents
  pub others= : (j : ℕ) → j ≢ q → c.entries j ≡ b.entries j
  pub after : Entered
  pub entry : c.entries q ≡ some after
  pub operation= : after.operation ≡ e.operation
  pub key= : after.key ≡ e.key
  pub found : operation_number e.operation ≡ 1 → after.note ≡ some (found_or_absent (setting_in e.key b.contents))

pub noted_six : (b : Book) (q : ℕ) (e : Entered) → b.entries q ≡ some e → NotedSix b (note_step b q e 6) q e
unfolding note_step noted_if_find note_at_six changed_at operation_number
noted_six b q e h = go e.operation refl
  where
    there : Option Value
    there = setting_in e.key b.contents

    -- An insert or a delete: no note.
    none-noted : (o : Operation) → e.operation ≡ o → operation_number o ≢ 1 → NotedSix b b q e
    none-noted o s n = record { contents= = refl; others= = λ j d. refl; after = e; entry = h; operation= = refl; key= = refl; found = λ f. absurd (n (ap operation_number (sym s) ∙ f)) }

    go : (o : Operation) → e.operation ≡ o → NotedSix b (noted_if_find b q e (note_at_six o there)) q e
    go Operation.Find s = record {
      contents= = refl;
      others= = λ j n. rw (eqb-diff j q n) refl;
      after = record { operation = e.operation; key = e.key; note = some (found_or_absent there) };
      entry = rw (eqb_same q q refl) refl;
      operation= = refl;
      key= = refl;
      found = λ _. refl;
    }
    go (Operation.Insert x) s = none-noted (Operation.Insert x) s (omega arith)
    go Operation.Delete s = none-noted Operation.Delete s (omega arith)

-- ---- 6: copy the primary page to the scratch page; chase

module _ {m : Memory} {b : Book} {q : ℕ} (t : Turn m b q 6) where
  abbrev heads : Heads m.root.originals t.inv.ghost.live (me t).chain (me t).lev (me t).key
  heads = t.facts.1

  -- ---- The chain, and where the chase ends

  abbrev top : ℕ
  top = local_level m.root.originals t.inv.ghost.live (me t).chain

  abbrev page : List ℕ
  page = page_of m.pages (primary_page (me t).chain)

  abbrev over : List ℕ
  over = t.inv.ghost.held (in_chain (me t).chain)

  abbrev end : Chase
  end = chase_of (view_of m q)

  chain_is : ChainIs m.root.capacity m.pages (me t).chain top (t.inv.ghost.records (me t).chain) over
  chain_is = t.inv.pages_ok.chain (me t).chain heads.inside

  page_level : level_of page ≡ top
  page_level = chain_level m.root.capacity m.pages (me t).chain top (t.inv.ghost.records (me t).chain) over chain_is

  page_long : length page ≡ page_words
  page_long = length_page_of (record { fits = omega (arith, t.inv.pages_many, t.busy.chain_fits) })

  chased : Chased m.root.originals (me t).key (me t).chain top end
  unfolding chase_of
  chased = chase_ends m.root.originals (me t).key (me t).chain (level_of page - (me t).lev) (me t).lev top (omega (arith, page_level, heads.reach)) heads.there

  end_heads : Heads m.root.originals t.inv.ghost.live end.chain end.lev (me t).key
  end_heads = chased_heads m.root.originals t.inv.ghost.live (me t).key (me t).chain end t.inv.limits.some_original heads.inside chased

  -- ---- No test fails

  page_sound_ok : page_sound m.root page ≡ true
  page_sound_ok =
      chain_sound m.root m.pages (me t).chain top (t.inv.ghost.records (me t).chain) over chain_is (held_overflow m.root t.inv.pages_ok.owned (in_chain (me t).chain)) (local_most t.inv (me t).chain)

  reaches : leb (me t).lev (level_of page) ≡ true
  reaches = le-leb (me t).lev (level_of page) (omega (arith, page_level, heads.reach))

  end_fits : end.chain < m.root.primaries
  end_fits = omega (arith, end_heads.inside, t.inv.extents_ok.live_fits)

  -- ---- The invariant afterwards, for whatever record the party has then

  noted : NotedSix b (note_step b q t.entered 6) q t.entered
  noted = noted_six b q t.entered t.busy.entry

  abbrev book_then_ok : Book
  book_then_ok = note_step b q t.entered 6

  book_is : note_for b q (b.entries q) (me t).step ≡ book_then_ok
  unfolding note_for
  book_is = rw t.busy.entry (ap (note_step b q t.entered) t.is_at)

  abbrev scene_then : Party → Scene
  scene_then p = record {
    root = m.root;
    parties = set m.parties q p;
    pages = with_page m.pages (scratch_page m.root q) page;
    ghost = t.inv.ghost;
    entries = book_then_ok.entries;
  }

  -- What is owed where the record becomes p.
  abbrev Leads : Party → Type 0
  Leads p = Kept m b q (moved (with_party p (with_scratch page (view_of m q))))

  goes_on : (p : Party) → claims m.root p ≡ claims m.root (me t) → restructures p ≡ false → PartyOk (scene_then p) q p → Leads p
  goes_on p claims= rests self =
      moved-kept t book_is
      (scratch_parts t page page_long p book_then_ok m.locks
      (record {
        entries= = noted.others=;
        contents= = noted.contents=;
        stays = λ x o. absurd (owns_no_old t t.facts.0.no_pages x o);
        frees = λ d _. uses_none t refl d;
        extents = extents_rest t (same_file t) p refl rests;
        locks = locks_stay m.root m.parties q p (row_long t) claims= t.inv.locks_ok;
        self = self;
      }))

  -- ---- Where 6 leads

  early_then : (p : Party) → p.owed ≡ (me t).owed → Early (scene_then p) q p
  early_then p e = record { nothing_owed = e ∙ t.facts.0.nothing_owed; no_pages = no_pages_held _ _ q refl t.facts.0.no_pages }

  busy_then : (p : Party) (n c o : ℕ) → n ≤ 11 → has_step (me t).operation n ≡ true → c < m.root.primaries → o < m.root.primaries
      → Busy (scene_then p) q (at_step n (with_lev end.lev (with_chain c (with_other o (me t))))) noted.after
  busy_then p n c o low has c_fits o_fits =
      let k = t.busy in
      record {
        entry = noted.entry;
        same_operation = ap operation_number noted.operation= ∙ k.same_operation;
        same_setting = ap setting_given noted.operation= ∙ k.same_setting;
        same_key = noted.key= ∙ k.same_key;
        step_fits = has;
        lev_fits = omega (arith, end_heads.reach, local_most t.inv end.chain);
        owed_fits_ok = k.owed_fits_ok;
        answer_fits = k.answer_fits;
        answer_set = λ h. absurd (omega arith);
        chain_fits = c_fits;
        other_fits = o_fits;
      }

  -- To 7, on the way to another chain.
  leaves : (j : ℕ) → end.lev ≡ j + 1 → hash m.root.originals j (me t).key ≡ (me t).chain → end.chain ≢ (me t).chain → end.lev ≤ top
      → Leads (chasing end (me t))
  unfolding chasing claims mode_of restructures has_step
  leaves j l h n r =
      let p = chasing end (me t) in
      goes_on p (rw t.is_at refl) refl
      (working noted.after (busy_then p 7 end.chain (me t).chain (omega arith) (has_step_ok t) end_fits t.busy.chain_fits) (
        early_then p refl,
        record {
          inside = heads.inside;
          before = j;
          lev_is = omega arith;
          from = h;
          reach = r;
          there = end_heads.there;
          apart = n;
        },
      ))

  -- Or the chase stays on the chain: it is the key's home.
  module _ (lev_is : end.lev ≡ top) (there : hash m.root.originals top (me t).key ≡ (me t).chain) where
    abbrev home : ℕ → Party
    home n = at_step n (with_lev end.lev (me t))

    home_heads : Heads m.root.originals t.inv.ghost.live (me t).chain end.lev (me t).key
    home_heads = record { inside = heads.inside; there = ap (λ (l : ℕ). hash m.root.originals l (me t).key) lev_is ∙ there; reach = omega arith }

    busy_home : (p : Party) (n : ℕ) → n ≤ 11 → has_step (me t).operation n ≡ true → Busy (scene_then p) q (home n) noted.after
    busy_home p n low has = busy_then p n (me t).chain (me t).other low has t.busy.chain_fits t.busy.other_fits

    -- To 10, for a change.
    changes : eqb (me t).operation 1 ≡ false → Leads (home 10)
    unfolding claims mode_of restructures has_step
    changes o =
        goes_on (home 10) (rw t.is_at refl) refl
        (working noted.after (busy_home (home 10) 10 (omega arith) (rw o (rw o at (has_step_ok t)))) (early_then (home 10) refl, record { heads = home_heads; exact = lev_is }))

    -- To 9, for a find.
    is_in_ok : setting_in t.entered.key b.contents ≡ setting_in (me t).key (entries_of page ++ entries_on m.pages over)
    unfolding entries_on
    is_in_ok =
        ap (λ (k : ℕ). setting_in k b.contents) t.busy.same_key ∙ t.inv.book_ok.same (me t).key
        ∙ ap (λ (c : ℕ). setting_in (me t).key (t.inv.ghost.records c))
        (home_is m.root.originals t.inv.ghost.live (me t).chain end.lev (me t).key t.inv.limits.some_original (omega (arith, t.inv.extents_ok.live_next)) home_heads lev_is)
        ∙ ap (setting_in (me t).key) (sym (chain_entries m.root.capacity m.pages (me t).chain top (t.inv.ghost.records (me t).chain) over chain_is))

    walking : (me t).operation ≡ 1 → Walking (scene_then (home 9)) q (home 9) noted.after
    walking o =
        copied_walks t page page_long (home 9) book_then_ok noted.after over
        (record {
          sound = page_sound_ok;
          link = chain_link m.root.capacity m.pages (me t).chain top (t.inv.ghost.records (me t).chain) over chain_is;
          linked = overflow_linked m.root m.pages over (drop m.root.capacity (t.inv.ghost.records (me t).chain))
              (held_overflow m.root t.inv.pages_ok.owned (in_chain (me t).chain)) chain_is.overflow;
          once = no_repeats t.inv.pages_ok.owned (in_chain (me t).chain);
          protected = λ x h. in_chain_ok (own_of_member t.inv.pages_ok.owned (in_chain (me t).chain) x h);
          note_is = noted.found (t.busy.same_operation ∙ o) ∙ ap (λ (there : Option Value). some (found_or_absent there)) is_in_ok;
          no_pages = t.facts.0.no_pages;
        })

    finds : (me t).operation ≡ 1 → Leads (home 9)
    unfolding claims mode_of restructures has_step
    finds o =
        goes_on (home 9) (rw t.is_at refl) refl
        (working noted.after (busy_home (home 9) 9 (omega arith) (rw o refl)) (walking o))

  abbrev next : Party
  next = cond (eqb end.chain (me t).chain) (arrived end (me t)) (chasing end (me t))

  moves : Leads next
  unfolding arrived
  moves = go chased
    where
      arrives : end.lev ≡ top → end.chain ≡ (me t).chain → hash m.root.originals top (me t).key ≡ (me t).chain → Told (eqb (me t).operation 1) → Leads next
      arrives l s h (holds o) = subst Leads (rw (eqb_same end.chain (me t).chain s, o) refl) (finds l h (eqb-true (me t).operation 1 o))
      arrives l s h (fails o) = subst Leads (rw (eqb_same end.chain (me t).chain s, o) refl) (changes l h o)

      go : Chased m.root.originals (me t).key (me t).chain top end → Leads next
      go (stayed l s h) = arrives l s h (tell (eqb (me t).operation 1))
      go (left j l s h d r) =
          let n : end.chain ≢ (me t).chain = λ e. d (sym s ∙ e) in
          subst Leads (rw (eqb-diff end.chain (me t).chain n) refl) (leaves j l h n (omega arith))

  -- No test fails, so the page is copied and the chase decides.
  pub step06_moves : step06 (view_of m q) ≡ moved (with_party next (with_scratch page (view_of m q)))
  unfolding step06
  step06_moves = rw (page_sound_ok, reaches, lt-ltb end.chain m.root.primaries end_fits) refl

  -- Where the chase stays, the chain is the key's home.
  pub stayed_home : end.chain ≡ (me t).chain → hash m.root.originals top (me t).key ≡ (me t).chain
  stayed_home e = go chased
    where
      go : Chased m.root.originals (me t).key (me t).chain top end → hash m.root.originals top (me t).key ≡ (me t).chain
      go (stayed l s h) = h
      go (left j l s h d r) = absurd (d (sym s ∙ e))

  pub step06-kept : Kept m b q (step06 (view_of m q))
  step06-kept = subst (Kept m b q) (sym step06_moves) moves
