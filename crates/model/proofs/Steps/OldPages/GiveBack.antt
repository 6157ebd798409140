-- Step 14 keeps the invariant: the old pages are given back, and the chain is given up.
-- Main statement: step14-kept.
use mathlib.Core.Path.{◌≡◌, refl, ap, ◌∙◌}
use mathlib.Core.Logic.{◌≢◌}
use mathlib.Core.Bool.{true, false, true≢false}
use mathlib.Core.List.{List, []}
use mathlib.Core.Option.{none}
use Prim.Native.Nat.{ℕ, ◌+◌}
use native.Mathlib.Omega.{arith}
use lib.ListN.{length, get_or, set}
use lib.Dec.{eqb}
use Rattle.model.specs.declared.Root.{Root}
use Rattle.model.specs.declared.Party.{Party}
use Rattle.model.specs.declared.Mode.TheVariants.{Exclusive}
use Rattle.model.specs.Records.{idle, at_step, with_old}
use Rattle.model.specs.LockWords.{chain_word, released_word}
use Rattle.model.specs.Pages.{page_of, with_page, scratch_page, link_to_first, names_overflow, zero_page}
use Rattle.model.specs.Chains.{list_from, sound}
use Rattle.model.specs.Memory.{Memory, view_of}
use Rattle.model.specs.Book.{Book, changed_at, with_entry, agrees_with, after_reply, is_note_of, is_note}
use Rattle.model.specs.LockRequests.{chain_exclusive, given_up, without_hold}
use Rattle.model.specs.Steps.OldPages.{step14, old_given_back}
use Rattle.model.specs.FreeList.{room_to_give_back, pages_given_back}
use Rattle.model.specs.Endings.{onward, finished}
use Rattle.model.specs.Steps.Dispatch.{has_step}
use Rattle.model.specs.Answers.{answer_of, refusal_number, performs}
use Rattle.model.specs.Outcome.{moved}
use Rattle.model.proofs.Laws.Lists.{cond_ind, count_nil, eqb-true, eqb_same, eqb-diff, All}
use Rattle.model.proofs.Laws.Pages.{Has, length-with_page, page_same, page_other, length-zero_page}
use Rattle.model.proofs.Laws.Filling.{IsOverflow}
use Rattle.model.proofs.Laws.Reading.{held_overflow, held_length, linked_list}
use Rattle.model.proofs.Invariant.Ghost.{old_of, partner_of, count, Ghost}
use Rattle.model.proofs.Invariant.LockMoves.{locks_root}
use Rattle.model.proofs.Invariant.Statement.{restructures, Scene, NoPages, PartyOk, resting, working, Settled, facts_at, Inv}
use Rattle.model.proofs.Invariant.Turn.{Turn, claims_at, me, note_still, uses_none, restructures_at}
use Rattle.model.proofs.Invariant.Frame.{restructures_at_lem}
use Rattle.model.proofs.Effects.Kept.{Kept, assemble, ahead_stays, asks_stay, Parts, moved-kept}
use Rattle.model.proofs.Laws.WaitingRow.{RowOk}
use Rattle.model.proofs.Effects.Moves.{busy_onto, names_old, split_owed_ok, merge_owed_lem, extents_rest}
use Rattle.model.proofs.Effects.Touch.{own_scratch}
use Rattle.model.proofs.Effects.Releases.{release_locks, Holds, holds_it, held_one}
use Rattle.model.proofs.Effects.GivingBack.{no_reader, old_kinds, one_listed, given_ghost, given_root, given_pages, given_sizes, given_long, given_room, no_pages_given, giving_parts}
use Rattle.model.proofs.Laws.Answers.{same_answer_lem}

module _ {m : Memory} {b : Book} {q : ℕ} (t : Turn m b q 14) where
  abbrev olds : List ℕ
  olds = t.inv.ghost.held (old_of q)

  olds_overflow : All (IsOverflow m.root) olds
  olds_overflow = held_overflow m.root t.inv.pages_ok.owned (old_of q)

  old_is : (me t).old ≡ link_to_first olds
  old_is = t.facts.leaving.trash.link

  -- ---- No test fails

  listed : list_from m.root m.pages (me t).old ≡ sound olds
  listed = ap (list_from m.root m.pages) old_is ∙ linked_list m.root m.pages olds t.facts.leaving.trash.linked (held_length m.root t.inv.pages_ok.owned (old_of q))

  named : names_overflow m.root (me t).old ≡ true
  named = names_old t t.facts

  abbrev holds_chain_lem : Holds t (chain_exclusive (me t))
  holds_chain_lem = record { word_fits = omega (arith, t.busy.chain_fits); front = []; back = []; has = refl }

  -- ---- What is left

  -- A change has no partner's pages.
  all_mine : (x : ℕ) → count x olds ≡ count x olds + count x (t.inv.ghost.held (partner_of q))
  all_mine x = omega (arith, ap (count x) t.facts.leaving.no_partner, count_nil x)

  abbrev given : List ℕ
  given = given_pages t old_kinds olds all_mine

  abbrev root_then : Root
  root_then = given_root t old_kinds olds all_mine

  abbrev ghost_then : Ghost
  ghost_then = given_ghost t old_kinds olds all_mine

  abbrev locks_then : List ℕ
  locks_then = set m.locks (chain_word (me t).chain) (released_word (get_or m.locks (chain_word (me t).chain) 0) q Exclusive)

  -- ---- The invariant afterwards, for whatever record p the party has then; ps is the page memory, where only its scratch page may differ

  record Leaves (ps : List ℕ) (p : Party) (c : Book) : Type 0 where
    pub long : length ps ≡ length given
    pub off : (x : ℕ) → x ≢ scratch_page m.root q → page_of ps x ≡ page_of given x
    pub no_claims : claims_at p.step p ≡ []
    pub rests : restructures p ≡ false
    pub entries= : (j : ℕ) → j ≢ q → c.entries j ≡ b.entries j
    pub contents= : c.contents ≡ b.contents
    pub self : PartyOk (record { root = root_then; parties = set m.parties q p; pages = ps; ghost = ghost_then; entries = c.entries }) q p

  given_parts : (ps : List ℕ) (p : Party) (c : Book) → Leaves ps p c → Parts m b t.inv q root_then locks_then ps p c ghost_then
  given_parts ps p c x =
      giving_parts t old_kinds olds all_mine ps p c (scratch_page m.root q)
      (record {
        long = x.long;
        off = x.off;
        no_overflow = λ h. omega arith;
        may_touch = own_scratch refl;
        zeroed = λ h. absurd (omega arith);
        only_used = λ d n. uses_none t refl d;
        old_listed = one_listed t old_kinds olds all_mine;
        unread = λ x e j n k. no_reader m b t.inv q t.busy.chain_fits (holds_it t holds_chain_lem) j n k;
        entries= = x.entries=;
        contents= = x.contents=;
      })
      locks_then (extents_rest t (record { sizes = given_sizes t old_kinds olds all_mine; live= = refl; low= = refl }) p refl x.rests)
      (locks_root m.root root_then (set m.parties q p) (release_locks t holds_chain_lem p x.no_claims tt)) x.self

  -- ---- Where 14 leads

  no_pages_then : (s : Scene) → s.ghost ≡ ghost_then → NoPages s q
  no_pages_then = no_pages_given t olds all_mine t.facts.leaving.nothing_built

  -- On to step 15 or 23, with the old link zeroed.
  goes_on : (n : ℕ) → has_step (me t).operation n ≡ true → claims_at n (at_step n (with_old 0 (me t))) ≡ [] → restructures_at n ≡ false
      → ((s : Scene) → Settled s q (at_step n (with_old 0 (me t))) t.entered → facts_at n s q (at_step n (with_old 0 (me t))) t.entered)
      → Kept m b q (moved (record { root = root_then; party = at_step n (with_old 0 (me t)); number = q; locks = locks_then; pages = given; behind = (view_of m q).behind }))
  goes_on n has no_claims rests settles =
      moved-kept t (note_still t refl)
      (given_parts given (at_step n (with_old 0 (me t))) b
      (record {
        long = refl;
        off = λ x h. refl;
        no_claims = no_claims;
        rests = restructures_at_lem (at_step n (with_old 0 (me t))) n refl ∙ rests;
        entries= = λ j h. refl;
        contents= = refl;
        self = working t.entered (busy_onto t n has (omega arith) _ refl refl 0)
            (settles _ (record { noted = t.facts.leaving.noted; made = t.facts.leaving.made; no_pages = no_pages_then _ refl }));
      }))

  -- Or done: the record and the scratch page are zeroed, the entry goes.
  last_parts : Parts m b t.inv q root_then locks_then (with_page given (scratch_page m.root q) zero_page) idle (with_entry b q none) ghost_then
  unfolding restructures changed_at
  last_parts =
      given_parts (with_page given (scratch_page m.root q) zero_page) idle (with_entry b q none)
      (record {
        long = length-with_page given (scratch_page m.root q) zero_page has_scratch length-zero_page;
        off = λ x n. page_other given (scratch_page m.root q) zero_page has_scratch length-zero_page x n;
        no_claims = refl;
        rests = refl;
        entries= = λ j n. rw (eqb-diff j q n) refl;
        contents= = refl;
        self = resting refl (rw (eqb_same q q refl) refl) (no_pages_then _ refl) (page_same given (scratch_page m.root q) zero_page has_scratch length-zero_page);
      })
    where
      has_scratch : Has given (scratch_page m.root q)
      has_scratch = record { fits = omega (arith, given_long t old_kinds olds all_mine, t.inv.pages_many) }

  finishes : (row : List ℕ) → RowOk root_then (set m.parties q idle) row
      → Inv (record { root = root_then; parties = set m.parties q idle; locks = locks_then; pages = with_page given (scratch_page m.root q) zero_page; waiting = row }) (with_entry b q none)
  finishes =
      assemble m b t.inv q t.in_row root_then locks_then (with_page given (scratch_page m.root q) zero_page) idle (with_entry b q none) ghost_then last_parts

  pub step14-kept : Kept m b q (step14 (view_of m q))
  unfolding step14 old_given_back room_to_give_back pages_given_back given_up without_hold onward finished refusal_number agrees_with after_reply is_note_of is_note has_step performs
  step14-kept =
      rw (named, listed, given_room t old_kinds olds all_mine, held_one t holds_chain_lem)
      (cond_ind (Kept m b q) (eqb (me t).owed 1) _ _
      (λ e. goes_on 15 (rw (split_owed_ok (me t) t.facts.owed_fits_ok (eqb-true _ _ e)) refl) refl refl (λ s f. f))
      (λ _. cond_ind (Kept m b q) (eqb (me t).owed 2) _ _
      (λ e. goes_on 23 (rw (merge_owed_lem (me t) t.facts.owed_fits_ok (eqb-true _ _ e)) refl) refl refl (λ s f. f))
      (λ _. record {
        allowed = refl;
        right = rw (note_still t refl, t.busy.entry, t.facts.leaving.noted, same_answer_lem (answer_of (me t).answer)) refl;
        inv = rw (note_still t refl) finishes;
        framed = ahead_stays m b t.inv q t.in_row root_then locks_then (with_page given (scratch_page m.root q) zero_page) idle (with_entry b q none) ghost_then last_parts;
        asks = asks_stay m b t.inv q t.in_row root_then locks_then (with_page given (scratch_page m.root q) zero_page) idle (with_entry b q none) ghost_then last_parts;
        stays = λ e. absurd (true≢false (ap performs e));
      })))
