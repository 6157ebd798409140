-- The link rule (demand 3): no step of a list follows a chain's link to an overflow page given back since that link was read.
-- The clock runs beside the invariant: a link that a party has yet to follow was read after its page was last given back, because that page has an owner who does not give it back.
-- Main statements: clock_kept (a call follows no stale link and keeps the clock right, Clock.antt); links_fresh_lem (every list of calls from formatted memory).
use mathlib.Core.Path.{◌≡◌, refl, sym, ap, ◌∙◌, subst}
use mathlib.Core.Logic.{◌≢◌, ◌⊎◌, inl, inr}
use mathlib.Core.Bool.{Bool, true, false, not, ◌||◌, false≢true}
use mathlib.Core.List.{List, [], ◌∷◌, ◌++◌}
use Prim.Native.Nat.{ℕ, ◌+◌, ◌<◌}
use native.Mathlib.Omega.{arith}
use lib.ListN.{length, set}
use lib.Seq.{set-get_or}
use lib.Dec.{eqb}
use Rattle.std.specs.Prelude.{Ok, Err}
use Rattle.model.proofs.Laws.Answers.{Caused, no_cause, caused_by, caused}
use Rattle.model.specs.declared.Refusal.{Refusal}
use Rattle.model.specs.WaitingRow.{row_after}
use Rattle.model.specs.declared.Party.{Party}
use Rattle.model.specs.declared.Operation.{Operation}
use Rattle.model.specs.declared.Root.{Root}
use Rattle.model.specs.declared.Mode.TheVariants.{Exclusive}
use Rattle.model.specs.Records.{idle, begun}
use Rattle.model.specs.Answers.{operation_number, is_moved, performs, setting_given, StepReply, CallReply}
use Rattle.model.specs.LockWords.{chain_word}
use Rattle.model.specs.Pages.{page_of, link_of, link_to_first, scratch_page, linked_page}
use Rattle.model.specs.Chains.{Checked, sound, list_from, pages_listed}
use Rattle.model.specs.FreeList.{is_among}
use Rattle.model.specs.Outcome.{View, Outcome}
use Rattle.model.specs.ScratchPages.{scratch_of}
use Rattle.model.specs.Memory.{Memory, party_at, view_of, after_step, with_waiting}
use Rattle.model.specs.Refusals.{first_cause, step_rows, begin_rows}
use Rattle.model.specs.Calls.{Called, called, stepped, step_call, with_begun, begin_call, withdraw_call, called_by}
use Rattle.model.specs.Withdraw.{is_decided, built_pages}
use Rattle.model.specs.Effects.{Withdraws}
use Rattle.model.specs.Runs.{Call, begin_for, step_for, withdraw_for, caller_of, reply_to, after_call}
use Rattle.model.specs.Book.{Book, Entered, book_after}
use Rattle.theory.specs.Links.{Trace, trace, no_trace, chain_pages, trace_looked, walked_from, trace_ten, trace_nine, trace_fourteen, trace_twenty_nine, trace_of, Clock, clock_start, trace_of_step, trace_answered, trace_of_withdraw, trace_of_call, ticked, clock_after, all_fresh, links_fresh}
use Rattle.theory.specs.Demands.{Start, start, book_start}
use Rattle.model.specs.Steps.Write.{is_change}
use Rattle.model.specs.Steps.Dispatch.{step_table, step_of}
use Rattle.model.proofs.Laws.Lists.{Told, holds, fails, tell, Cmp, same, diff, cmp, cond_ind, not-both, and_both, both-and, or_either, lt-ltb, eqb-true, eqb-diff, among_first, ◌▸◌, all_in}
use Rattle.model.proofs.Laws.Distinct.{Outside}
use Rattle.model.proofs.Invariant.Ghost.{Owner, in_chain, old_of, partner_of, built_by}
use Rattle.model.proofs.Invariant.Owners.{own_of_member}
use Rattle.model.proofs.Laws.Structure.{Linked}
use Rattle.model.proofs.Laws.Filling.{chain_link}
use Rattle.model.proofs.Laws.Reading.{linked_list, held_length, held_overflow, absent_outside, outside_absent, scratch_outside}
use Rattle.model.specs.Claims.{claims}
use Rattle.model.proofs.Invariant.Claims.{is_claimed}
use Rattle.model.proofs.Invariant.Statement.{Scene, Protected, in_chain_ok, in_old, Written, unchanged, made_change, PartyOk, Inv, scene_of}
use Rattle.model.proofs.Invariant.Frame.{claims_at_lem, named}
use Rattle.model.proofs.Effects.Kept.{row_same, row_other}
use Rattle.model.proofs.Invariant.Facts.{facts_at_lem}
use Rattle.model.proofs.Effects.GivingBack.{no_reader}
use Rattle.model.proofs.Theorems.RefusalOrder.{begin_refused_ok, begin_accepted, step_refused_ok, step-accepted}
use Rattle.model.proofs.Theorems.Gate.{ready}
use Rattle.theory.proofs.Reached.{started_inv, started-idle}
use Rattle.model.proofs.Theorems.Calls.{StepsKept, call_kept}
use Rattle.model.proofs.Invariant.Turn.{Turn}
use Rattle.model.proofs.Steps.Withdraw.{undecided}
use Rattle.theory.proofs.Withdraws.{withdraw_alters, WithdrawMet, stranger, unbegun, too_late, taken_back, withdraw_meets}
use Rattle.theory.proofs.Clock.{ClockOk, fresh_now, fresh_walked, given-none, scratch_now, old_later, old_now, Spared, clock_moves, clock_ticks}
use Rattle.model.proofs.Exits.OpenLinks.{open_steps, scratch_open, old_open, open_at}
use Rattle.theory.proofs.OpenLinks.{OldLink, closed, read_now_ok, kept_old, Marks}
use Rattle.model.proofs.Exits.Scratches.{Leaves}
use Rattle.theory.proofs.Traces.{Traced, stays, goes, moves_by_link, step_traced}

-- ---- Links of step numbers

-- The step numbers that follow or read links, or give pages back.
abbrev link_steps : List ℕ
link_steps = 6 ∷ (9 ∷ (10 ∷ (14 ∷ (17 ∷ (26 ∷ (29 ∷ []))))))

no_links : (t n : ℕ) (v : View) (a : StepReply) (next s o : ℕ) → Outside n link_steps → trace_of t n v a next s o ≡ no_trace
unfolding trace_of
no_links t n v a next s o h =
    rw (
      eqb-diff n 6 h.0,
      eqb-diff n 9 h.1.0,
      eqb-diff n 10 h.1.1.0,
      eqb-diff n 14 h.1.1.1.0,
      eqb-diff n 17 h.1.1.1.1.0,
      eqb-diff n 26 h.1.1.1.1.1.0,
      eqb-diff n 29 h.1.1.1.1.1.1.0,
    ) refl

-- A link to the first of some pages leads to one of them.
leads_in : (l : ℕ) (xs : List ℕ) → l ≡ link_to_first xs → l ≢ 0 → is_among (linked_page l) xs ≡ true
unfolding link_to_first
leads_in l [] e n = absurd (n e)
leads_in l (x ∷ xs) e n =
    let there : linked_page l ≡ x = omega arith in
    subst (λ (y : ℕ). is_among y (x ∷ xs) ≡ true) (sym there) (among_first x xs)

-- ---- Whose pages are to be followed, and whose are given back

module _ (m : Memory) (b : Book) (i : Inv m b) where
  abbrev before : Scene
  before = scene_of m i.ghost b

  -- A walk over the list of an owner.
  list_held : (o : Owner) (l : ℕ) → l ≡ link_to_first (i.ghost.held o) → Linked m.root m.pages (i.ghost.held o) → list_from m.root m.pages l ≡ sound (i.ghost.held o)
  list_held o l e h = ap (list_from m.root m.pages) e ∙ linked_list m.root m.pages (i.ghost.held o) h (held_length m.root i.pages_ok.owned o)

  module _ (j : ℕ) (in_row : j < m.root.parties) where
    abbrev p : Party
    p = party_at m.parties j

    -- What a find would walk to next is protected.
    next_protected : p.step ≡ 9 → link_of (scratch_of (view_of m j)) ≢ 0 → Protected before p.chain (linked_page (link_of (scratch_of (view_of m j))))
    next_protected e n =
        let f = (facts_at_lem 8 before j p e (i.parties_ok j in_row)).facts in
        f.protected (linked_page (link_of (scratch_of (view_of m j)))) (leads_in (link_of (scratch_of (view_of m j))) f.rest f.link n)

    -- At 11 the link in scratch leads to the party's built pages.
    built_link : p.step ≡ 11 → link_of (scratch_of (view_of m j)) ≡ link_to_first (i.ghost.held (built_by j))
    built_link e =
        let f = (facts_at_lem 10 before j p e (i.parties_ok j in_row)).facts in
        chain_link m.root.capacity m.pages (scratch_page m.root j) _ f.after (i.ghost.held (built_by j))
        (record { primary = f.building.scratch_is; overflow = f.building.built })

    -- The page that its scratch link names: one that a find would walk to next, or one that the party has built.
    data NextPage (x : ℕ) : Type 0 where
      walked_next : p.step ≡ 9 → Protected before p.chain x → NextPage x
      built_next : i.ghost.own x ≡ built_by j → NextPage x

    next_page : scratch_open p.step ≡ true → link_of (scratch_of (view_of m j)) ≢ 0 → NextPage (linked_page (link_of (scratch_of (view_of m j))))
    next_page h n = go (or_either (eqb p.step 9) (eqb p.step 11) h)
      where
        x : ℕ
        x = linked_page (link_of (scratch_of (view_of m j)))

        go : (eqb p.step 9 ≡ true) ⊎ (eqb p.step 11 ≡ true) → NextPage x
        go (inl t) = let e = eqb-true p.step 9 t in walked_next e (next_protected e n)
        go (inr t) =
            let e = built_link (eqb-true p.step 11 t) in
            built_next (own_of_member i.pages_ok.owned (built_by j) x (leads_in (link_of (scratch_of (view_of m j))) (i.ghost.held (built_by j)) e n))

    -- An old link leads to the party's own pages to give back, or still to the pages of its chain.
    abbrev OldIs : Type 0
    OldIs = (p.old ≡ link_to_first (i.ghost.held (old_of j))) ⊎ (p.old ≡ link_to_first (i.ghost.held (in_chain p.chain)))

    at_twelve : is_change p.answer ≡ true → (e : Entered) → Written before j p e → OldIs
    at_twelve c e (unchanged a n o x) = absurd (not-both (is_change p.answer) c n)
    at_twelve c e (made_change l o) = inl l.trash.link

    -- No old link, and no old pages.
    none_left : p.old ≡ 0 → i.ghost.held (old_of j) ≡ [] → p.old ≡ link_to_first (i.ghost.held (old_of j))
    unfolding link_to_first
    none_left e n = e ∙ sym (ap link_to_first n)

    old_is : old_open p ≡ true → OldIs
    unfolding old_open
    old_is h =
        let t = and_both (is_among p.step open_steps) (not (eqb p.step 12) || is_change p.answer) h in
        all_in (λ (n : ℕ). p.step ≡ n → OldIs) p.step open_steps
        ((λ e. inr (facts_at_lem 10 before j p e ok).facts.keeps_link)
        ▸ (λ e. let x = facts_at_lem 11 before j p e ok in at_twelve (subst (λ (n : ℕ). (not (eqb n 12) || is_change p.answer) ≡ true) e t.1) x.entered x.facts)
        ▸ (λ e. inl (facts_at_lem 12 before j p e ok).facts.leaving.trash.link)
        ▸ (λ e. inl (facts_at_lem 13 before j p e ok).facts.leaving.trash.link)
        ▸ (λ e. inr (facts_at_lem 17 before j p e ok).facts.keeps_link)
        ▸ (λ e. inl (facts_at_lem 18 before j p e ok).facts.trash.link)
        ▸ (λ e. inl (facts_at_lem 19 before j p e ok).facts.trash.link)
        ▸ (λ e. inl (facts_at_lem 20 before j p e ok).facts.trash.link)
        ▸ (λ e. inl (facts_at_lem 21 before j p e ok).facts.trash.link)
        ▸ (λ e. inr (facts_at_lem 26 before j p e ok).facts.0.keeps_link)
        ▸ (λ e. inr (facts_at_lem 27 before j p e ok).facts.0.keeps_link)
        ▸ (λ e. let x = (facts_at_lem 28 before j p e ok).facts.0 in inl (none_left x.no_old_link x.settled.no_pages.nothing_old.no_old))
        ▸ tt) t.0 refl
      where
        ok : PartyOk before j p
        ok = i.parties_ok j in_row

    old_owner : old_open p ≡ true → p.old ≢ 0 → (i.ghost.own (linked_page p.old) ≡ old_of j) ⊎ (i.ghost.own (linked_page p.old) ≡ in_chain p.chain)
    old_owner h n = go (old_is h)
      where
        go : OldIs → (i.ghost.own (linked_page p.old) ≡ old_of j) ⊎ (i.ghost.own (linked_page p.old) ≡ in_chain p.chain)
        go (inl e) = inl (own_of_member i.pages_ok.owned (old_of j) (linked_page p.old) (leads_in p.old (i.ghost.held (old_of j)) e n))
        go (inr e) = inr (own_of_member i.pages_ok.owned (in_chain p.chain) (linked_page p.old) (leads_in p.old (i.ghost.held (in_chain p.chain)) e n))

  module _ (q : ℕ) (in_row : q < m.root.parties) where
    abbrev me : Party
    me = party_at m.parties q

    -- A page that party q gives back is its own: an old one, and nobody else holds the chain, or one that it has built.
    data GivenBy (x : ℕ) : Type 0 where
      gives_old : (i.ghost.own x ≡ old_of q) ⊎ (i.ghost.own x ≡ partner_of q) → me.chain < m.root.primaries
          → is_claimed (claims m.root me) (chain_word me.chain) Exclusive ≡ true → GivenBy x
      gives_built : i.ghost.own x ≡ built_by q → GivenBy x

    kind_of : {a c : Owner} → a ≡ c → a.kind ≡ c.kind
    kind_of e = ap (λ (o : Owner). o.kind) e

    index_of : {a c : Owner} → a ≡ c → a.index ≡ c.index
    index_of e = ap (λ (o : Owner). o.index) e

    walk_spared : (j : ℕ) → j ≢ q → (party_at m.parties j).step ≡ 9 → (x : ℕ) → Protected before (party_at m.parties j).chain x → GivenBy x → ⊥
    walk_spared j n e x (in_chain_ok y) (gives_old (inl o) fits alone) = omega (arith, kind_of (sym y ∙ o))
    walk_spared j n e x (in_chain_ok y) (gives_old (inr o) fits alone) = omega (arith, kind_of (sym y ∙ o))
    walk_spared j n e x (in_chain_ok y) (gives_built o) = omega (arith, kind_of (sym y ∙ o))
    walk_spared j n e x (in_old k y c) (gives_old (inl o) fits alone) =
        let mine : k ≡ q = index_of (sym y ∙ o) in
        no_reader m b i q fits alone j n e (sym c ∙ ap (λ (a : ℕ). (party_at m.parties a).chain) mine)
    walk_spared j n e x (in_old k y c) (gives_old (inr o) fits alone) = omega (arith, kind_of (sym y ∙ o))
    walk_spared j n e x (in_old k y c) (gives_built o) = omega (arith, kind_of (sym y ∙ o))

    next_spared : (j : ℕ) → (l : j < m.root.parties) → j ≢ q → (x : ℕ) → NextPage j l x → GivenBy x → ⊥
    next_spared j l n x (walked_next e y) g = walk_spared j n e x y g
    next_spared j l n x (built_next y) (gives_old (inl o) fits alone) = omega (arith, kind_of (sym y ∙ o))
    next_spared j l n x (built_next y) (gives_old (inr o) fits alone) = omega (arith, kind_of (sym y ∙ o))
    next_spared j l n x (built_next y) (gives_built o) = n (index_of (sym y ∙ o))

    old_spared : (j : ℕ) → j ≢ q → (x d : ℕ) → (i.ghost.own x ≡ old_of j) ⊎ (i.ghost.own x ≡ in_chain d) → GivenBy x → ⊥
    old_spared j n x d (inl y) (gives_old (inl o) fits alone) = n (index_of (sym y ∙ o))
    old_spared j n x d (inl y) (gives_old (inr o) fits alone) = omega (arith, kind_of (sym y ∙ o))
    old_spared j n x d (inl y) (gives_built o) = omega (arith, kind_of (sym y ∙ o))
    old_spared j n x d (inr y) (gives_old (inl o) fits alone) = omega (arith, kind_of (sym y ∙ o))
    old_spared j n x d (inr y) (gives_old (inr o) fits alone) = omega (arith, kind_of (sym y ∙ o))
    old_spared j n x d (inr y) (gives_built o) = omega (arith, kind_of (sym y ∙ o))

    -- ---- What the step does with links

    module _ (k : Clock) (ok : ClockOk k m) where
      abbrev now : ℕ
      now = k.calls + 1

      earlier : (x : ℕ) → k.given_at x < now
      earlier x = omega (arith, ok.past x)

      -- Every link followed is fresh, and the pages given back are the party's.
      record Fair (t : Trace) : Type 0 where
        fresh : all_fresh k t.follows ≡ true
        given : (x : ℕ) → is_among x t.gives ≡ true → GivenBy x

      none-given : (x : ℕ) → is_among x [] ≡ true → GivenBy x
      unfolding is_among
      none-given x h = absurd (false≢true h)

      fair_none : Fair no_trace
      unfolding all_fresh
      fair_none = record { fresh = refl; given = none-given }

      fair_looked : (xs : List ℕ) (o : Bool) → Fair (trace_looked now xs o)
      fair_looked xs o = record { fresh = fresh_now k now xs earlier; given = none-given }

      fair_ten : (xs : List ℕ) (o : Bool) → Fair (trace_ten now xs o)
      fair_ten xs o = record { fresh = fresh_now k now xs earlier; given = none-given }

      fair_walked : me.step ≡ 9 → (a : StepReply) → (is_moved a ≡ true → link_of (scratch_of (view_of m q)) ≢ 0) → Fair (trace_nine (view_of m q) (k.scratch_read q) a)
      unfolding trace_nine all_fresh
      fair_walked e a n =
          cond_ind Fair (is_moved a) _ _
          (λ h. record { fresh = both-and (lt-ltb _ (k.scratch_read q) (ok.scratch_fresh q in_row (ap scratch_open e) (n h))) refl; given = none-given }) (λ _. fair_none)

      -- The old link of a party that gives its pages back.
      walked_old : old_open me ≡ true → me.old ≡ link_to_first (i.ghost.held (old_of q)) → all_fresh k (walked_from (k.old_read q) now (i.ghost.held (old_of q))) ≡ true
      walked_old h e = fresh_walked k (k.old_read q) now me.old (i.ghost.held (old_of q)) e (ok.old_fresh q in_row h) earlier

      fair_fourteen : me.step ≡ 14 → Fair (trace_fourteen (view_of m q) (k.old_read q) now)
      unfolding trace_fourteen pages_listed old_open is_among
      fair_fourteen e =
          let f = facts_at_lem 13 before q me e (i.parties_ok q in_row) in
          let trash = f.facts.leaving.trash in
          rw (list_held (old_of q) me.old trash.link trash.linked)
          (record {
            fresh = walked_old (open_at me 14 e) trash.link;
            given = λ x h.
                gives_old (inl (own_of_member i.pages_ok.owned (old_of q) x h)) f.busy.chain_fits (rw (claims_at_lem m.root me 14 e) (named [] (chain_word me.chain) Exclusive));
          })

      -- Neither chain of a merge had an overflow page.
      none-listed : list_from m.root m.pages 0 ≡ sound []
      unfolding link_to_first
      none-listed = linked_list m.root m.pages [] tt (omega arith)

      fair_twenty_nine : me.step ≡ 29 → Fair (trace_twenty_nine (view_of m q) (k.old_read q) now)
      unfolding trace_twenty_nine pages_listed walked_from
      fair_twenty_nine e =
          let x = (facts_at_lem 28 before q me e (i.parties_ok q in_row)).facts.0 in
          rw (x.no_old_link, x.partner_link, none-listed) fair_none

      -- By step number.
      trace_fair : (a : StepReply) (next : ℕ) → (me.step ≡ 9 → is_moved a ≡ true → link_of (scratch_of (view_of m q)) ≢ 0)
          → Fair (trace_of now me.step (view_of m q) a next (k.scratch_read q) (k.old_read q))
      unfolding trace_of
      trace_fair a next linked = go (tell (is_among me.step link_steps))
        where
          FairAt : ℕ → Type 0
          FairAt n = Fair (trace_of now n (view_of m q) a next (k.scratch_read q) (k.old_read q))

          by : (n : ℕ) → me.step ≡ n → FairAt n → FairAt me.step
          by n e f = subst FairAt (sym e) f

          go : Told (is_among me.step link_steps) → FairAt me.step
          go (fails h) = subst Fair (sym (no_links now me.step (view_of m q) a next (k.scratch_read q) (k.old_read q) (absent_outside me.step link_steps h))) fair_none
          go (holds h) =
              all_in (λ (n : ℕ). me.step ≡ n → FairAt me.step) me.step link_steps
              ((λ e. by 6 e (record { fresh = fair_none.fresh; given = none-given }))
              ▸ (λ e. by 9 e (fair_walked e a (linked e)))
              ▸ (λ e. by 10 e (fair_ten (chain_pages (view_of m q) me.chain) (eqb next 11)))
              ▸ (λ e. by 14 e (fair_fourteen e))
              ▸ (λ e. by 17 e (fair_looked (chain_pages (view_of m q) me.chain) (is_moved a)))
              ▸ (λ e. by 26 e (fair_looked (chain_pages (view_of m q) me.chain ++ chain_pages (view_of m q) me.other) (is_moved a)))
              ▸ (λ e. by 29 e (fair_twenty_nine e))
              ▸ tt) h refl

-- ---- A call

-- What is owed of a call: it follows no stale link, and the clock is right after it.
pub record CallFresh (k : Clock) (m : Memory) (c : Call) : Type 0 where
  pub fresh : all_fresh k (trace_of_call k m c).follows ≡ true
  pub clock : ClockOk (clock_after k m c) (after_call m c)

-- The trace of a call that performs no step, and of one that performs a step.
quiet_trace : (k : Clock) (m : Memory) (q : ℕ) (a : StepReply) (u : Memory) → step_call m q ≡ called a u → performs a ≡ false → trace_of_step k m q ≡ no_trace
unfolding trace_of_step
quiet_trace k m q a u e p = rw (e, p) refl

acting_trace : (k : Clock) (m : Memory) (q : ℕ) (a : StepReply) (u : Memory) (p : Party) → step_call m q ≡ called a u → performs a ≡ true → party_at u.parties q ≡ p
    → trace_of_step k m q ≡ trace_of (k.calls + 1) (party_at m.parties q).step (view_of m q) a p.step (k.scratch_read q) (k.old_read q)
unfolding trace_of_step
acting_trace k m q a u p e h s = rw (e, h, s) refl

module _ (k : Clock) (m : Memory) (ok : ClockOk k m) (q : ℕ) where
  -- A call that performs no step.
  quiet_fresh : (a : StepReply) (u : Memory) → step_call m q ≡ called a u → performs a ≡ false → (row : List ℕ) → u ≡ with_waiting row m → CallFresh k m (step_for q)
  unfolding trace_of_call clock_after after_call all_fresh
  quiet_fresh a u e p row s = record {
    fresh = ap (λ (t : Trace). all_fresh k t.follows) none;
    clock = subst (λ (t : Trace). ClockOk (ticked k q t) (step_call m q).memory) (sym none)
        (subst (λ (x : Memory). ClockOk (ticked k q no_trace) x) (sym (ap (λ (c : Called StepReply). c.memory) e ∙ s)) (clock_row row (clock_ticks k m ok q)));
  }
    where
      clock_row : (row : List ℕ) → ClockOk (ticked k q no_trace) m → ClockOk (ticked k q no_trace) (with_waiting row m)
      clock_row row c = record { past = c.past; scratch_fresh = c.scratch_fresh; old_fresh = c.old_fresh }

      none : trace_of_step k m q ≡ no_trace
      none = quiet_trace k m q a u e p

  module _ (b : Book) (i : Inv m b) (none : first_cause (step_rows m q) ≡ Ok tt) where
    abbrev v : View
    v = view_of m q

    abbrev o : Outcome
    o = step_of (party_at m.parties q).step (view_of m q)

    abbrev u : Memory
    u = (called_by m q o).memory

    in_row : q < m.root.parties
    in_row = (ready m q none).number_fits

    module _ (acts : performs o.answer ≡ true) (l : Leaves v o.after) (marks : Marks (party_at m.parties q).step v o.answer o.after.party) where
      abbrev t : Trace
      t = trace_of (k.calls + 1) (party_at m.parties q).step v o.answer o.after.party.step (k.scratch_read q) (k.old_read q)

      own_record : party_at u.parties q ≡ o.after.party
      own_record = ap (λ (n : ℕ). party_at (set m.parties n o.after.party) q) l.number= ∙ row_same m.parties q o.after.party (omega (arith, in_row, i.parties_many))

      fair : Fair m b i q in_row k ok t
      unfolding step_of step_table
      fair =
          trace_fair m b i q in_row k ok o.answer o.after.party.step
          (λ e h. moves_by_link v (subst (λ (n : ℕ). is_moved (step_of n (view_of m q)).answer ≡ true) e h))

      spared : Spared m u q t.gives
      spared = record {
        parties= = l.sizes.parties=;
        record= = λ j n. ap (λ (x : ℕ). party_at (set m.parties x o.after.party) j) l.number= ∙ row_other m.parties q j o.after.party n;
        scratch= = λ j n. ap (λ (x : ℕ). page_of o.after.pages x) (page= j) ∙ l.spares.others j n;
        scratch_spared = λ j h n e w. not-given (linked_page (link_of (scratch_of (view_of m j)))) (λ g. next_spared m b i q in_row j h n _ (next_page m b i j h e w) g);
        old_spared = λ j h n e w. not-given (linked_page (party_at m.parties j).old) (λ g. old_spared m b i q in_row j n _ (party_at m.parties j).chain (old_owner m b i j h e w) g);
      }
        where
          page= : (j : ℕ) → scratch_page o.after.root j ≡ scratch_page m.root j
          page= j = omega (arith, l.sizes.primaries=, l.sizes.overflow=)

          not-given : (x : ℕ) → (GivenBy m b i q in_row x → ⊥) → is_among x t.gives ≡ false
          not-given x f = go (tell (is_among x t.gives))
            where
              go : Told (is_among x t.gives) → is_among x t.gives ≡ false
              go (holds h) = absurd (f (fair.given x h))
              go (fails h) = h

      own_scratch : scratch_open o.after.party.step ≡ true → (x : ℕ) → (ticked k q t).given_at x < (ticked k q t).scratch_read q
      own_scratch e x =
          let r = marks.scratch_link_ok (k.calls + 1) (k.scratch_read q) (k.old_read q) e in
          rw (given-none k q t x r.keeps_all, scratch_now k q t r.reads) (omega (arith, ok.past x))

      own_old : old_open o.after.party ≡ true → o.after.party.old ≢ 0 → (ticked k q t).given_at (linked_page o.after.party.old) < (ticked k q t).old_read q
      own_old h n = go (marks.old_link (k.calls + 1) (k.scratch_read q) (k.old_read q))
        where
          x : ℕ
          x = linked_page o.after.party.old

          go : OldLink v o.after.party t → (ticked k q t).given_at x < (ticked k q t).old_read q
          go (closed c) = absurd (not-both (old_open o.after.party) h c)
          go (read_now_ok r) = rw (given-none k q t x r.keeps_all, old_now k q t r.reads) (omega (arith, ok.past x))
          go (kept_old e c g) =
              let was : k.given_at x < k.old_read q =
              subst (λ (y : ℕ). k.given_at (linked_page y) < k.old_read q) (sym e) (ok.old_fresh q in_row c (λ z. n (e ∙ z))) in
              rw (given-none k q t x g) (old_later k q t (k.given_at x) was (ok.past x))

      acting_fresh : step_call m q ≡ called o.answer u → CallFresh k m (step_for q)
      unfolding trace_of_call clock_after after_call
      acting_fresh e =
          let is = acting_trace k m q o.answer u o.after.party e acts own_record in
          record {
            fresh = ap (λ (s : Trace). all_fresh k s.follows) is ∙ fair.fresh;
            clock = subst (λ (s : Trace). ClockOk (ticked k q s) (step_call m q).memory) (sym is)
                (subst (λ (c : Called StepReply). ClockOk (ticked k q t) c.memory) (sym e)
                (clock_moves k m u ok q t spared
                (λ _. subst (λ (p : Party). scratch_open p.step ≡ true → (ticked k q t).given_at (linked_page (link_of (scratch_of (view_of u q)))) < (ticked k q t).scratch_read q) (sym own_record)
                (λ s. own_scratch s (linked_page (link_of (scratch_of (view_of u q))))))
                (λ _. subst (λ (p : Party). old_open p ≡ true → p.old ≢ 0 → (ticked k q t).given_at (linked_page p.old) < (ticked k q t).old_read q) (sym own_record) own_old)));
          }

    -- A step that passes the tests of the refusal table.
    tested_fresh : step_call m q ≡ called o.answer u → CallFresh k m (step_for q)
    tested_fresh e = go (step_traced v (ready m q none))
      where
        go : Traced (party_at m.parties q).step v o → CallFresh k m (step_for q)
        go (stays p s) = quiet_fresh o.answer u e p (row_after q m.waiting o.answer)
            (ap (with_waiting (row_after q m.waiting o.answer)) (ap (after_step m) s ∙ ap (λ (ps : List Party). record { root = m.root; parties = ps; locks = m.locks; pages = m.pages; waiting = m.waiting }) (set-get_or m.parties q idle)))
        go (goes p l marks) = acting_fresh p l marks e

  step_fresh : (b : Book) → Inv m b → CallFresh k m (step_for q)
  unfolding stepped performs
  step_fresh b i = go (caused (first_cause (step_rows m q)))
    where
      go : Caused (first_cause (step_rows m q)) → CallFresh k m (step_for q)
      go (no_cause e) = tested_fresh b i e (step-accepted m q e)
      go (caused_by c y) = quiet_fresh (Err c) m (step_refused_ok m c q y) refl m.waiting refl

  -- ---- Begin

  module _ (op : Operation) (key : ℕ) where
    begun_spared : Spared m (with_begun m q op key) q []
    unfolding with_begun is_among
    begun_spared = record {
      parties= = refl;
      record= = λ j n. row_other m.parties q j (begun (operation_number op) key (setting_given op)) n;
      scratch= = λ j n. refl;
      scratch_spared = λ j h n e w. refl;
      old_spared = λ j h n e w. refl;
    }

    begun_record : length m.parties ≡ m.root.parties → q < m.root.parties → party_at (with_begun m q op key).parties q ≡ begun (operation_number op) key (setting_given op)
    unfolding with_begun
    begun_record e h = row_same m.parties q (begun (operation_number op) key (setting_given op)) (omega arith)

    begun_clock : length m.parties ≡ m.root.parties → ClockOk (ticked k q no_trace) (with_begun m q op key)
    unfolding old_open is_among
    begun_clock e =
        clock_moves k m (with_begun m q op key) ok q no_trace begun_spared (λ h s. absurd (false≢true (sym (ap (λ (p : Party). scratch_open p.step) (begun_record e h)) ∙ s)))
        (λ h s n. absurd (false≢true (sym (ap old_open (begun_record e h)) ∙ s)))

    begin_fresh : (b : Book) → Inv m b → CallFresh k m (begin_for q op key)
    unfolding trace_of_call clock_after after_call all_fresh
    begin_fresh b i = record { fresh = refl; clock = go (caused (first_cause (begin_rows m q))) }
      where
        go : Caused (first_cause (begin_rows m q)) → ClockOk (ticked k q no_trace) (begin_call m q op key).memory
        go (no_cause e) = subst (λ (c : Called CallReply). ClockOk (ticked k q no_trace) c.memory) (sym (begin_accepted m q op key e)) (begun_clock i.parties_many)
        go (caused_by c y) =
            subst (λ (c : Called CallReply). ClockOk (ticked k q no_trace) c.memory) (sym (begin_refused_ok m c q op key y))
            (clock_ticks k m ok q)

  -- ---- Withdraw

  -- Refused: nothing is followed, and nothing changes.
  kept_fresh : (n : Refusal) → withdraw_call m q ≡ called (Err n) m → CallFresh k m (withdraw_for q)
  unfolding trace_of_call clock_after after_call all_fresh trace_of_withdraw trace_answered
  kept_fresh n e = record {
    fresh = ap (λ (c : Called CallReply). all_fresh k (trace_answered k m q c.answer).follows) e;
    clock = subst (λ (c : Called CallReply). ClockOk (ticked k q (trace_answered k m q c.answer)) c.memory) (sym e) (clock_ticks k m ok q);
  }

  -- Accepted: at 11 the list that scratch leads to is walked and given back.
  module _ (b : Book) (now : Turn m b q (party_at m.parties q).step) (undone : is_decided (party_at m.parties q) ≡ false)
      (accepted : (withdraw_call m q).answer ≡ Ok tt) where
    abbrev builts : List ℕ
    builts = now.inv.ghost.held (built_by q)

    abbrev left : Memory
    left = (withdraw_call m q).memory

    built_now : built_pages (view_of m q) ≡ sound builts
    built_now = (undecided m b q now undone).built

    abbrev back : Trace
    back = trace (walked_from (k.scratch_read q) (k.calls + 1) builts) false false builts

    trace-is : trace_of_withdraw k m q ≡ back
    unfolding trace_of_withdraw trace_answered pages_listed
    trace-is = rw (accepted, built_now) refl

    back_fresh : all_fresh k back.follows ≡ true
    unfolding all_fresh walked_from built_pages pages_listed
    back_fresh = go (cmp (party_at m.parties q).step 11)
      where
        go : Cmp (party_at m.parties q).step 11 → all_fresh k back.follows ≡ true
        go (same e) =
            fresh_walked k (k.scratch_read q) (k.calls + 1) _ builts (built_link m b now.inv q now.in_row e) (ok.scratch_fresh q now.in_row (ap scratch_open e))
            (λ x. omega (arith, ok.past x))
        go (diff n) =
            let none : builts ≡ [] = sym (ap pages_listed (rw (eqb-diff (party_at m.parties q).step 11 n) at built_now)) in
            rw none refl

    altered : Withdraws m q
    altered = (withdraw_alters m q).accepted accepted

    -- A page that a party other than q has yet to follow is none of them.
    not_back : (x : ℕ) → (GivenBy m b now.inv q now.in_row x → ⊥) → is_among x builts ≡ false
    not_back x f = go (tell (is_among x builts))
      where
        go : Told (is_among x builts) → is_among x builts ≡ false
        go (holds h) = absurd (f (gives_built (own_of_member now.inv.pages_ok.owned (built_by q) x h)))
        go (fails h) = h

    back_spared : Spared m left q builts
    unfolding pages_listed
    back_spared =
        let i = now.inv in
        record {
          parties= = ap (λ (r : Root). r.parties) altered.root;
          record= = altered.others;
          scratch= = λ j n.
              ap (λ (r : Root). page_of left.pages (scratch_page r j)) altered.root
              ∙ altered.elsewhere (scratch_page m.root j) (λ e. n (omega arith))
              (ap (λ (c : Checked (List ℕ)). is_among (scratch_page m.root j) (pages_listed c)) built_now
              ∙ outside_absent (scratch_page m.root j) builts (scratch_outside m.root j builts (held_overflow m.root i.pages_ok.owned (built_by q))));
          scratch_spared = λ j h n e w. not_back _ (λ g. next_spared m b i q now.in_row j h n _ (next_page m b i j h e w) g);
          old_spared = λ j h n e w. not_back _ (λ g. old_spared m b i q now.in_row j n _ (party_at m.parties j).chain (old_owner m b i j h e w) g);
        }

    taken_fresh : CallFresh k m (withdraw_for q)
    unfolding trace_of_call clock_after after_call old_open is_among
    taken_fresh = record {
      fresh = ap (λ (t : Trace). all_fresh k t.follows) trace-is ∙ back_fresh;
      clock = subst (λ (t : Trace). ClockOk (ticked k q t) left) (sym trace-is)
          (clock_moves k m left ok q back back_spared (λ h s. absurd (false≢true (sym (ap (λ (p : Party). scratch_open p.step) altered.own) ∙ s)))
          (λ h s n. absurd (false≢true (sym (ap old_open altered.own) ∙ s))));
    }

  withdraw_fresh : (b : Book) → Inv m b → CallFresh k m (withdraw_for q)
  withdraw_fresh b i = go (withdraw_meets m b i q)
    where
      go : WithdrawMet m b i q → CallFresh k m (withdraw_for q)
      go (stranger h n e) = kept_fresh Refusal.Party e
      go (unbegun h n e) = kept_fresh Refusal.Idle e
      go (too_late h e c d f) = kept_fresh Refusal.Decided f
      go (taken_back h e c t d a) = taken_fresh b t d a

pub clock_kept : (k : Clock) (m : Memory) (b : Book) → Inv m b → ClockOk k m → (c : Call) → CallFresh k m c
clock_kept k m b i ok (begin_for q op key) = begin_fresh k m ok q op key b i
clock_kept k m b i ok (step_for q) = step_fresh k m ok q b i
clock_kept k m b i ok (withdraw_for q) = withdraw_fresh k m ok q b i

-- ---- A list of calls

pub run_links : StepsKept → (k : Clock) (m : Memory) (b : Book) → Inv m b → ClockOk k m → (cs : List Call) → links_fresh k m cs ≡ true
unfolding links_fresh
run_links kept k m b i ok [] = refl
run_links kept k m b i ok (c ∷ cs) =
    let f = clock_kept k m b i ok c in
    both-and f.fresh
    (run_links kept (clock_after k m c) (after_call m c) (book_after b c (party_at m.parties (caller_of c)).step (reply_to m c)) (call_kept kept m b i c).inv f.clock cs)

-- Before the first call nobody is under way.
start_clock : (s : Start) → ClockOk clock_start (start s)
unfolding clock_start old_open is_among
start_clock s = record {
  past = λ x. omega arith;
  scratch_fresh = λ q l e n. absurd (false≢true (sym (ap (λ (p : Party). scratch_open p.step) (started-idle s q)) ∙ e));
  old_fresh = λ q l h n. absurd (false≢true (sym (ap old_open (started-idle s q)) ∙ h));
}

pub links_fresh_lem : StepsKept → (s : Start) (cs : List Call) → links_fresh clock_start (start s) cs ≡ true
links_fresh_lem kept s cs =
    run_links kept clock_start (start s) (book_start s) (started_inv s) (start_clock s) cs
