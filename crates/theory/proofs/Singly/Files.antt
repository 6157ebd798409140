-- The yardstick's files by the keys and settings that they hold, and what the yardstick's changes make of a file.
-- Main statements: Holding (a file that holds exactly this map, each key at its home), same_file (level, next and the
-- map determine a file), held_home (a key's home has of it what the map has), map_held (its chains joined are the
-- map); Rehomed, rehomed (a key's home after one split more);
-- holding_changed, holding_parted, holding_rejoined.
use mathlib.Core.Path.{◌≡◌, refl, sym, ap, ◌∙◌, subst}
use mathlib.Core.Logic.{◌≢◌}
use mathlib.Core.Bool.{Bool, true, false, cond, not, false≢true}
use mathlib.Core.List.{List, [], ◌∷◌, ◌++◌}
use mathlib.Core.Option.{Option, none, some}
use Prim.Native.Nat.{ℕ, suc, ◌+◌, ◌≤◌, ◌<◌}
use native.Mathlib.Omega.{arith}
use lib.ListN.{length, get_or, set, take, length-append, length-set, get_or-append, get_or-eq_default}
use lib.Seq.{get_or-set_same, get_or-set_other, get_or-take, get_or_at, length-take-le, ext_get_or}
use lib.Dec.{eqb}
use Rattle.model.specs.declared.Root.{Root}
use Rattle.model.specs.Addresses.{span, hash, address_of, split_next, merge_target, merge_partner, merge_level, merge_barred, chain_count}
use Rattle.model.specs.declared.Entry.{Entry}
use Rattle.model.specs.Entries.{has_key, ascending, joined, staying, going, setting_in}
use Rattle.theory.specs.PlainMap.{PlainMap}
use Rattle.theory.specs.Sequential.{File, records_at, with_records, map_in}
use Rattle.theory.proofs.Singly.StepWords.{parted, rejoined}
use Rattle.model.proofs.Laws.Lists.{Cmp, same, diff, cmp, Ord, lt, ge, ord, eqb_same, eqb-diff}
use Rattle.model.proofs.Invariant.Ghost.{Extent, extent, size, advance}
use Rattle.model.proofs.Invariant.Extents.{size_is}
use Rattle.model.proofs.Laws.Addresses.{address_lt}
use Rattle.model.proofs.Invariant.Advance.{advance_size, advance_fits, split-hash, home_splits, home_inside, home_other, home_split, home_made}
use Rattle.model.proofs.Laws.Retreat.{Retreat, merge_retreats, merge_partner_ok, target_before}
use Rattle.model.proofs.Laws.Halves.{ascends_staying, ascends_going, setting_staying, setting_going}
use Rattle.model.proofs.Laws.Joins.{ascends_joined, setting_joined}
use Rattle.model.proofs.Laws.Ascending.{same_ascending}
use Rattle.model.proofs.Laws.Together.{Apart, setting_home, ascends_all}
use Rattle.model.proofs.Steps.SplitWrite.Root.{split-advances, level_raised}
use Rattle.model.specs.declared.Operation.{Operation}
use Rattle.model.specs.Book.{Value, contents_at_eleven}
use Rattle.model.proofs.Laws.Changes.{setting_after, setting_eleven, ascends_eleven}
use Rattle.model.proofs.Laws.Entries.{is_in, has_setting}

-- ---- A file that holds exactly this map

-- How far a file extends.
abbrev pub extent_of : File → Extent
extent_of f = extent f.level f.next

-- The home of a key in a file of this extent, N being n.
abbrev pub home : ℕ → Extent → ℕ → ℕ
home n e k = address_of n e.level e.next k

pub record Holding (n : ℕ) (f : File) (s : PlainMap) : Type 0 where
  pub as_many : length f.chains ≡ size n (extent_of f)
  pub next_fits : f.next < span n f.level
  pub ascends : (c : ℕ) → ascending (records_at f c) ≡ true
  pub map_ascends : ascending s ≡ true
  pub settings : (c k : ℕ) → setting_in k (records_at f c) ≡ cond (eqb (home n (extent_of f) k) c) (setting_in k s) none

-- It is determined by how far it extends and by its map.
pub same_file : (n : ℕ) (f g : File) (s : PlainMap) → Holding n f s → Holding n g s → extent_of f ≡ extent_of g → f ≡ g
unfolding records_at
same_file n f g s a b e = λ i. record { level = ap (λ (x : Extent). x.level) e i; next = ap (λ (x : Extent). x.next) e i; chains = lists i }
  where
    lists : f.chains ≡ g.chains
    lists = ext_get_or [] f.chains g.chains (a.as_many ∙ ap (size n) e ∙ sym b.as_many)
        (λ c l. same_ascending (records_at f c) (records_at g c) (a.ascends c) (b.ascends c)
        (λ k. a.settings c k ∙ ap (λ (x : Extent). cond (eqb (home n x k) c) (setting_in k s) none) e ∙ sym (b.settings c k)))

-- What the map has of a key is what its home has.
pub held_home : (n : ℕ) (f : File) (s : PlainMap) → Holding n f s → (k : ℕ) → setting_in k (records_at f (home n (extent_of f) k)) ≡ setting_in k s
held_home n f s h k =
    h.settings (home n (extent_of f) k) k ∙ ap (λ (t : Bool). cond t (setting_in k s) none) (eqb_same (home n (extent_of f) k) (home n (extent_of f) k) refl)

-- A key is on no chain but its home.
has_home : (n : ℕ) (f : File) (s : PlainMap) → Holding n f s → (c k : ℕ) → has_key k (records_at f c) ≡ true → home n (extent_of f) k ≡ c
has_home n f s h c k t = go (cmp (home n (extent_of f) k) c)
  where
    go : Cmp (home n (extent_of f) k) c → home n (extent_of f) k ≡ c
    go (same e) = e
    go (diff d) =
        absurd (false≢true (sym (ap is_in (h.settings c k ∙ ap (λ (t : Bool). cond t (setting_in k s) none) (eqb-diff (home n (extent_of f) k) c d))) ∙ has_setting k (records_at f c) ∙ t))

-- The records of its chains, joined, are the map.
pub map_held : (n : ℕ) (f : File) (s : PlainMap) → Holding n f s → map_in f ≡ s
unfolding map_in records_at
map_held n f s h =
    same_ascending (map_in f) s (ascends_all f.chains apart) h.map_ascends
    (λ k. setting_home f.chains apart (home n (extent_of f) k) k (λ d t. has_home n f s h d k t) ∙ held_home n f s h k)
  where
    apart : Apart f.chains
    apart = record { ascends = h.ascends; once = λ c d k t u. sym (has_home n f s h c k t) ∙ has_home n f s h d k u }

-- ---- Other records in one chain

at_home : (n : ℕ) (f : File) (s : PlainMap) → Holding n f s → 0 < n → (k : ℕ) → home n (extent_of f) k < length f.chains
unfolding size
at_home n f s h positive k = omega (arith, h.as_many, address_lt n f.level f.next k positive)

module _ (n : ℕ) (f : File) (s : PlainMap) (h : Holding n f s) (positive : 0 < n) (k : ℕ) (o : Operation) where
  abbrev at : ℕ
  at = home n (extent_of f) k

  -- What the operation makes of the chain, and what the key has then.
  abbrev es : List Entry
  es = contents_at_eleven o k (records_at f (home n (extent_of f) k))

  abbrev t : Option Value
  t = setting_after o (setting_in k s)

  settings_then : (j : ℕ) → setting_in j es ≡ cond (eqb j k) t (setting_in j (records_at f at))
  settings_then j = setting_eleven o k (records_at f at) j ∙ ap (λ (x : Option Value). cond (eqb j k) (setting_after o x) (setting_in j (records_at f at))) (held_home n f s h k)

  records_here : records_at (with_records f at es) at ≡ es
  unfolding records_at with_records
  records_here = get_or-set_same f.chains at es [] (at_home n f s h positive k)

  records_there : (c : ℕ) → c ≢ at → records_at (with_records f at es) c ≡ records_at f c
  unfolding records_at with_records
  records_there c d = get_or-set_other f.chains at c es [] d

  ascends_each : (c : ℕ) → Cmp c at → ascending (records_at (with_records f at es) c) ≡ true
  ascends_each c (same e) = rw (e, records_here) (ascends_eleven o k (records_at f at) (h.ascends at))
  ascends_each c (diff d) = rw (records_there c d) (h.ascends c)

  settings_each : (c j : ℕ) → Cmp c at → Cmp j k → setting_in j (records_at (with_records f at es) c) ≡ cond (eqb (home n (extent_of f) j) c) (cond (eqb j k) t (setting_in j s)) none
  settings_each c j (same e) (same i) = rw (e, records_here, settings_then j, i, eqb_same k k refl, eqb_same at at refl) refl
  settings_each c j (same e) (diff x) = rw (e, records_here, settings_then j, eqb-diff j k x) (h.settings at j)
  settings_each c j (diff d) (same i) =
      rw (records_there c d, i, eqb_same k k refl, eqb-diff at c (λ e. d (sym e))) (h.settings c k ∙ ap (λ (x : Bool). cond x (setting_in k s) none) (eqb-diff at c (λ e. d (sym e))))
  settings_each c j (diff d) (diff x) = rw (records_there c d, eqb-diff j k x) (h.settings c j)

  -- The chain and the map changed alike, by an operation on key k.
  pub holding_changed : Holding n (with_records f (home n (extent_of f) k) (contents_at_eleven o k (records_at f (home n (extent_of f) k)))) (contents_at_eleven o k s)
  unfolding with_records
  holding_changed = record {
    as_many = length-set f.chains at es ∙ h.as_many;
    next_fits = h.next_fits;
    ascends = λ c. ascends_each c (cmp c at);
    map_ascends = ascends_eleven o k s h.map_ascends;
    settings = λ c j. settings_each c j (cmp c at) (cmp j k) ∙ ap (λ (x : Option Value). cond (eqb (home n (extent_of f) j) c) x none) (sym (setting_eleven o k s j));
  }

-- ---- A key's home after one split more

pub data Rehomed (n : ℕ) (e : Extent) (k : ℕ) : Type 0 where
  elsewhere : home n e k ≢ e.next → home n (advance n e) k ≡ home n e k → Rehomed n e k
  stays_there : home n e k ≡ e.next → hash n (e.level + 1) k ≡ e.next → home n (advance n e) k ≡ e.next → Rehomed n e k
  goes : home n e k ≡ e.next → hash n (e.level + 1) k ≢ e.next → home n (advance n e) k ≡ size n e → Rehomed n e k

pub rehomed : (n : ℕ) (e : Extent) → e.next < span n e.level → 0 < n → (k : ℕ) → Rehomed n e k
rehomed n e fits positive k = go (cmp (home n e k) e.next) (cmp (hash n (e.level + 1) k) e.next)
  where
    go : Cmp (home n e k) e.next → Cmp (hash n (e.level + 1) k) e.next → Rehomed n e k
    go (diff d) x = elsewhere d (home_other n e fits positive k d)
    go (same s) (same x) = stays_there s x (home_split n e fits positive k x)
    go (same s) (diff x) = goes s x (home_made n e fits positive k (split-hash n e fits positive k (home_splits n e fits positive k s) x))

-- ---- What a key has in one of two lists

pub none_either : (t : Bool) → cond {A = Option Value} t none none ≡ none
none_either true = refl
none_either false = refl

in_or_none : (x : Option Value) → cond (is_in x) x none ≡ x
in_or_none none = refl
in_or_none (some y) = refl

-- ---- Chain next parted in two

-- One element more at the end.
last_other : (xs : List (List Entry)) (y : List Entry) (c : ℕ) → c ≢ length xs → get_or (xs ++ (y ∷ [])) c [] ≡ get_or xs c []
last_other xs y c d = go (ord c (length xs))
  where
    go : Ord c (length xs) → get_or (xs ++ (y ∷ [])) c [] ≡ get_or xs c []
    go (lt l _) = get_or-append xs (y ∷ []) [] c l
    go (ge l _) =
        get_or-eq_default (xs ++ (y ∷ [])) [] (omega (arith, length-append xs (y ∷ [])))
        ∙ sym (get_or-eq_default xs [] l)

module _ (r : Root) (f : File) (s : PlainMap) (h : Holding r.originals f s) (positive : 0 < r.originals) where
  abbrev n : ℕ
  n = r.originals

  abbrev e : Extent
  e = extent_of f

  abbrev stay : List Entry
  stay = staying n (f.level + 1) f.next (records_at f f.next)

  abbrev go : List Entry
  go = going n (f.level + 1) f.next (records_at f f.next)

  abbrev halves : File
  halves = parted r f (staying r.originals (f.level + 1) f.next (records_at f f.next)) (going r.originals (f.level + 1) f.next (records_at f f.next))

  pub parted_extent : extent_of (parted r f stay go) ≡ advance r.originals (extent_of f)
  unfolding parted
  parted_extent = sym (level_raised f.level (split_next n f.level f.next)) ∙ split-advances n f.level f.next h.next_fits

  next_inside : f.next < size n e
  next_inside = omega (arith, size_is n e, h.next_fits)

  set_many : length (set f.chains f.next stay) ≡ size n e
  set_many = length-set f.chains f.next stay ∙ h.as_many

  parted_next : records_at (parted r f stay go) f.next ≡ stay
  unfolding parted records_at
  parted_next =
      last_other (set f.chains f.next stay) go f.next (omega (arith, set_many, next_inside))
      ∙ get_or-set_same f.chains f.next stay [] (omega (arith, h.as_many, next_inside))

  parted_new : records_at (parted r f stay go) (size n e) ≡ go
  unfolding parted records_at
  parted_new = get_or_at (set f.chains f.next stay) go [] [] (size n e) set_many

  parted_other : (c : ℕ) → c ≢ f.next → c ≢ size n e → records_at (parted r f stay go) c ≡ records_at f c
  unfolding parted records_at
  parted_other c d x =
      last_other (set f.chains f.next stay) go c (λ y. x (y ∙ set_many))
      ∙ get_or-set_other f.chains f.next c stay [] d

  parted_ascends : (c : ℕ) → Cmp c f.next → Cmp c (size n e) → ascending (records_at (parted r f stay go) c) ≡ true
  parted_ascends c (same x) y = rw (x, parted_next) (ascends_staying n (f.level + 1) f.next (records_at f f.next) (h.ascends f.next))
  parted_ascends c (diff x) (same y) = rw (y, parted_new) (ascends_going n (f.level + 1) f.next (records_at f f.next) (h.ascends f.next))
  parted_ascends c (diff x) (diff y) = rw (parted_other c x y) (h.ascends c)

  -- Which keys stay, which go, and which are elsewhere, by their homes.
  stay_settings : (k : ℕ) → Rehomed n e k
      → cond (eqb (hash n (f.level + 1) k) f.next) (cond (eqb (home n e k) f.next) (setting_in k s) none) none ≡ cond (eqb (home n (advance n e) k) f.next) (setting_in k s) none
  stay_settings k (elsewhere d x) = rw (x, eqb-diff (home n e k) f.next d) (none_either (eqb (hash n (f.level + 1) k) f.next))
  stay_settings k (stays_there a b x) = rw (x, a, b, eqb_same f.next f.next refl) refl
  stay_settings k (goes a b x) = rw (x, eqb-diff (hash n (f.level + 1) k) f.next b, eqb-diff (size n e) f.next (omega (arith, next_inside))) refl

  go_settings : (k : ℕ) → Rehomed n e k
      → cond (not (eqb (hash n (f.level + 1) k) f.next)) (cond (eqb (home n e k) f.next) (setting_in k s) none) none ≡ cond (eqb (home n (advance n e) k) (size n e)) (setting_in k s) none
  go_settings k (elsewhere d x) =
      rw (x, eqb-diff (home n e k) f.next d, eqb-diff (home n e k) (size n e) (omega (arith, home_inside n e h.next_fits positive k)))
      (none_either (not (eqb (hash n (f.level + 1) k) f.next)))
  go_settings k (stays_there a b x) = rw (x, b, eqb_same f.next f.next refl, eqb-diff f.next (size n e) (omega (arith, next_inside))) refl
  go_settings k (goes a b x) = rw (x, a, eqb-diff (hash n (f.level + 1) k) f.next b, eqb_same f.next f.next refl, eqb_same (size n e) (size n e) refl) refl

  other_settings : (c k : ℕ) → c ≢ f.next → c ≢ size n e → Rehomed n e k → cond (eqb (home n e k) c) (setting_in k s) none ≡ cond (eqb (home n (advance n e) k) c) (setting_in k s) none
  other_settings c k d z (elsewhere _ x) = rw x refl
  other_settings c k d z (stays_there a b x) = rw (x, a) refl
  other_settings c k d z (goes a b x) = rw (x, a, eqb-diff f.next c (λ y. d (sym y)), eqb-diff (size n e) c (λ y. z (sym y))) refl

  parted_settings : (c k : ℕ) → Cmp c f.next → Cmp c (size n e) → setting_in k (records_at (parted r f stay go) c) ≡ cond (eqb (home n (advance n e) k) c) (setting_in k s) none
  parted_settings c k (same x) y =
      rw (x, parted_next)
      (setting_staying n (f.level + 1) f.next k (records_at f f.next) ∙ ap (λ (t : Option Value). cond (eqb (hash n (f.level + 1) k) f.next) t none) (h.settings f.next k)
      ∙ stay_settings k (rehomed n e h.next_fits positive k))
  parted_settings c k (diff x) (same y) =
      rw (y, parted_new)
      (setting_going n (f.level + 1) f.next k (records_at f f.next) ∙ ap (λ (t : Option Value). cond (not (eqb (hash n (f.level + 1) k) f.next)) t none) (h.settings f.next k)
      ∙ go_settings k (rehomed n e h.next_fits positive k))
  parted_settings c k (diff x) (diff y) = rw (parted_other c x y) (h.settings c k ∙ other_settings c k x y (rehomed n e h.next_fits positive k))

  pub holding_parted : Holding r.originals (parted r f (staying r.originals (f.level + 1) f.next (records_at f f.next)) (going r.originals (f.level + 1) f.next (records_at f f.next))) s
  unfolding parted
  holding_parted = record {
    as_many = length-append (set f.chains f.next stay) (go ∷ []) ∙ omega (arith, set_many, advance_size n e h.next_fits) ∙ ap (size n) (sym parted_extent);
    next_fits = subst (λ (x : Extent). x.next < span n x.level) (sym parted_extent) (advance_fits n e h.next_fits);
    ascends = λ c. parted_ascends c (cmp c f.next) (cmp c (size n e));
    map_ascends = h.map_ascends;
    settings = λ c k. parted_settings c k (cmp c f.next) (cmp c (size n e)) ∙ ap (λ (x : Extent). cond (eqb (home n x k) c) (setting_in k s) none) (sym parted_extent);
  }

-- ---- The last chain joined to its target

module _ (r : Root) (f : File) (s : PlainMap) (h : Holding r.originals f s) (positive : 0 < r.originals)
    (goes_on : merge_barred (chain_count r.originals f.level f.next) r.originals ≡ false) where
  abbrev originals : ℕ
  originals = r.originals

  abbrev target : ℕ
  target = merge_target originals f.level f.next

  abbrev partner : ℕ
  partner = merge_partner originals f.level f.next

  -- The extent one split less.
  abbrev d : Extent
  d = extent (merge_level f.level f.next) target

  retreat : Retreat originals (extent_of f) d
  retreat = merge_retreats originals f.level f.next positive h.next_fits goes_on

  partner_is : partner ≡ size originals d
  partner_is = merge_partner_ok originals f.level f.next positive h.next_fits goes_on

  before : target < partner
  before = target_before originals f.level f.next positive h.next_fits goes_on

  both_many : length f.chains ≡ suc partner
  both_many = h.as_many ∙ retreat.one_less ∙ ap suc (sym partner_is)

  abbrev both : List Entry
  both = joined (records_at f target) (records_at f partner)

  joined_target : records_at (rejoined r f target both) target ≡ both
  unfolding rejoined records_at
  joined_target = get_or-take partner (set f.chains target both) target [] before ∙ get_or-set_same f.chains target both [] (omega (arith, before, both_many))

  joined_other : (c : ℕ) → c ≢ target → c < partner → records_at (rejoined r f target both) c ≡ records_at f c
  unfolding rejoined records_at
  joined_other c x l = get_or-take partner (set f.chains target both) c [] l ∙ get_or-set_other f.chains target c both [] x

  few : length (take partner (set f.chains target both)) ≡ partner
  few = length-take-le partner (set f.chains target both) (omega (arith, length-set f.chains target both, both_many))

  joined_beyond : (c : ℕ) → partner ≤ c → records_at (rejoined r f target both) c ≡ []
  unfolding rejoined records_at
  joined_beyond c l = get_or-eq_default (take partner (set f.chains target both)) [] (omega (arith, few))

  -- Homes in the file as it is are those one split further than in the file then.
  settings_now : (c k : ℕ) → setting_in k (records_at f c) ≡ cond (eqb (home originals (advance originals d) k) c) (setting_in k s) none
  settings_now c k = h.settings c k ∙ ap (λ (x : Extent). cond (eqb (home originals x k) c) (setting_in k s) none) (sym retreat.advances)

  -- A key is on no chain but its home.
  off_home : (c k : ℕ) → home originals (advance originals d) k ≢ c → has_key k (records_at f c) ≡ false
  off_home c k x = sym (has_setting k (records_at f c)) ∙ ap is_in (settings_now c k ∙ ap (λ (t : Bool). cond t (setting_in k s) none) (eqb-diff (home originals (advance originals d) k) c x))

  key_once : (k : ℕ) → has_key k (records_at f target) ≡ true → has_key k (records_at f partner) ≡ false
  key_once k x = go (cmp (home originals (advance originals d) k) target)
    where
      go : Cmp (home originals (advance originals d) k) target → has_key k (records_at f partner) ≡ false
      go (same y) = off_home partner k (omega (arith, y, before))
      go (diff y) = absurd (false≢true (sym (off_home target k y) ∙ x))

  abbrev held_in : ℕ → ℕ → Option Value
  held_in k c = cond (eqb (home originals (advance originals d) k) c) (setting_in k s) none

  both_settings : (k : ℕ) → Rehomed originals d k → cond (is_in (held_in k target)) (held_in k target) (held_in k partner) ≡ cond (eqb (home originals d k) target) (setting_in k s) none
  both_settings k (elsewhere y x) =
      rw (
        x,
        eqb-diff (home originals d k) target y,
        eqb-diff (home originals d k) partner (omega (arith, partner_is, home_inside originals d retreat.next_fits positive k)),
      ) refl
  both_settings k (stays_there a b x) = rw (x, a, eqb_same target target refl, eqb-diff target partner (omega (arith, before))) (in_or_none (setting_in k s))
  both_settings k (goes a b x) =
      rw (x, a, eqb_same target target refl, ← partner_is, eqb_same partner partner refl, eqb-diff partner target (omega (arith, before))) refl

  rest_settings : (c k : ℕ) → c ≢ target → c < partner → Rehomed originals d k → held_in k c ≡ cond (eqb (home originals d k) c) (setting_in k s) none
  rest_settings c k y l (elsewhere _ x) = rw x refl
  rest_settings c k y l (stays_there a b x) = rw (x, a) refl
  rest_settings c k y l (goes a b x) = rw (x, a, eqb-diff target c (λ z. y (sym z)), eqb-diff (size originals d) c (omega (arith, partner_is))) refl

  rejoined_ascends : (c : ℕ) → Cmp c target → Ord c partner → ascending (records_at (rejoined r f target both) c) ≡ true
  unfolding ascending
  rejoined_ascends c (same x) l = rw (x, joined_target) (ascends_joined (records_at f target) (records_at f partner) (h.ascends target) (h.ascends partner) key_once)
  rejoined_ascends c (diff x) (lt l _) = rw (joined_other c x l) (h.ascends c)
  rejoined_ascends c (diff x) (ge l _) = rw (joined_beyond c l) refl

  rejoined_settings : (c k : ℕ) → Cmp c target → Ord c partner → setting_in k (records_at (rejoined r f target both) c) ≡ cond (eqb (home originals d k) c) (setting_in k s) none
  unfolding setting_in
  rejoined_settings c k (same x) l =
      rw (x, joined_target)
      (setting_joined k (records_at f target) (records_at f partner) (h.ascends target) key_once
      ∙ ap (λ (t : Bool). cond t (setting_in k (records_at f target)) (setting_in k (records_at f partner))) (sym (has_setting k (records_at f target)))
      ∙ ap (λ (t : Option Value). cond (is_in t) t (setting_in k (records_at f partner))) (settings_now target k)
      ∙ ap (cond (is_in (held_in k target)) (held_in k target)) (settings_now partner k)
      ∙ both_settings k (rehomed originals d retreat.next_fits positive k))
  rejoined_settings c k (diff x) (lt l _) = rw (joined_other c x l) (settings_now c k ∙ rest_settings c k x l (rehomed originals d retreat.next_fits positive k))
  rejoined_settings c k (diff x) (ge l _) = rw (joined_beyond c l, eqb-diff (home originals d k) c (omega (arith, partner_is, home_inside originals d retreat.next_fits positive k))) refl

  pub holding_rejoined : Holding r.originals (rejoined r f (merge_target r.originals f.level f.next)
      (joined (records_at f (merge_target r.originals f.level f.next)) (records_at f (merge_partner r.originals f.level f.next)))) s
  unfolding rejoined
  holding_rejoined = record {
    as_many = few ∙ partner_is;
    next_fits = retreat.next_fits;
    ascends = λ c. rejoined_ascends c (cmp c target) (ord c partner);
    map_ascends = h.map_ascends;
    settings = λ c k. rejoined_settings c k (cmp c target) (ord c partner);
  }
