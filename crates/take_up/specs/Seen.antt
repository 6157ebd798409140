-- A saved file looked through: what each function of this crate answers, in terms of the model.
-- Main definitions: after_records, after_page, listed_good and pages_seen (what was seen of a chain, page after page);
-- chain_saved and chains_saved (overflow pages counted, where the chains fit); at_rest (the file with a row of zero
-- records); CanSurvey (sizes, root and lengths are as they must be).
use Rattle.std.specs.Prelude.{◌≡◌, Bool, true, cond, ◌&&◌, List, [], ◌∷◌, ℕ, zero, suc, ◌+◌, ◌*◌, ◌≤◌, length, drop, replicate, eqb, leb, Option, Some, None}
use Rattle.model.specs.declared.Root.{Root}
use Rattle.model.specs.declared.Entry.{Entry}
use Rattle.model.specs.Sizes.{page_words, record_words, within_limits, all_page_words}
use Rattle.model.specs.Records.{idle}
use Rattle.model.specs.Addresses.{hash}
use Rattle.model.specs.Entries.{key_of}
use Rattle.model.specs.Pages.{page_of, level_of, count_of, link_of, entries_of}
use Rattle.model.specs.Chains.{chain_of, pages_in}
use Rattle.model.specs.Memory.{Memory}
use Rattle.model.specs.Refusals.{root_sound}
use Rattle.model.specs.WaitingRow.{all_zero}
use Rattle.model.specs.TakeUp.{fits_if_sound, chains_fit}
use Rattle.chains.specs.Links.{linked_pages}
use Rattle.take_up.specs.declared.Home.{Home}

-- What the hash of a key asks of the chain that is looked through.
pub record HomeFits (h : Home) : Type 0 where
  pub some_original : 1 ≤ h.originals
  pub originals_fit : h.originals ≤ 256
  pub level_fits : h.level ≤ 10

-- ---- Records

-- Whether a key is hashed to the chain.
unfoldable pub fits_home : Home → ℕ → Bool
fits_home h k = eqb (hash h.originals h.level k) h.chain

-- Whether the keys are at home and ascend, the first being l or more.
unfoldable pub good_from : Home → ℕ → List Entry → Bool
good_from h l [] = true
good_from h l (e ∷ es) = leb l (key_of e) && fits_home h (key_of e) && good_from h (key_of e + 1) es

-- The least that a key behind them may be.
unfoldable pub least_after : ℕ → List Entry → ℕ
least_after l [] = l
least_after l (e ∷ es) = least_after (key_of e + 1) es

-- The least that a key behind them may be, where all is well with them.
abbrev pub behind : Bool → ℕ → Option ℕ
behind well least = cond well (Some least) None

-- After one record more, and after some.
abbrev pub after_record : Home → ℕ → ℕ → Option ℕ
after_record h l k = behind (leb l k && fits_home h k) (k + 1)

unfoldable pub after_records : Home → ℕ → List Entry → Option ℕ
after_records h l es = behind (good_from h l es) (least_after l es)

-- ---- Pages

-- Whether a page has this level, at least so many records, and zeros behind them.
unfoldable pub page_filled : List ℕ → ℕ → ℕ → Bool
page_filled w level fewest = all_zero (drop (3 + count_of w * record_words) w) && eqb (level_of w) level && leb fewest (count_of w)

-- How many records a page must have where so many pages are left behind it: b, and on the last one `last`.
unfoldable pub fewest_on : ℕ → ℕ → ℕ → ℕ
fewest_on b left last = cond (eqb left 0) last b

-- Whether all is well with a page, and what its records leave.
abbrev pub page_good : Home → ℕ → List ℕ → ℕ → ℕ → Bool
page_good h l w level fewest = page_filled w level fewest && good_from h l (entries_of w)

-- After one page more.
unfoldable pub after_page : Home → ℕ → List ℕ → ℕ → ℕ → Option ℕ
after_page h l w level fewest = behind (page_good h l w level fewest) (least_after l (entries_of w))

-- Whether all is well with the overflow pages xs, b records a page.
unfoldable pub listed_good : Home → ℕ → ℕ → List ℕ → List ℕ → Bool
listed_good h b l ps [] = true
listed_good h b l ps (x ∷ xs) =
    page_good h l (page_of ps x) 0 (fewest_on b (length xs) 1) && listed_good h b (least_after l (entries_of (page_of ps x))) ps xs

-- Whether all is well with a chain of n overflow pages.
unfoldable pub pages_seen : Root → Home → ℕ → List ℕ → Bool
pages_seen r h n ps =
    let w = page_of ps h.chain in
    page_good h 0 w h.level (fewest_on r.capacity n 0)
    && listed_good h r.capacity (least_after 0 (entries_of w)) ps (linked_pages ps n (link_of w))

-- Page x is within the page memory.
pub record Within (ps : List ℕ) (x : ℕ) : Type 0 where
  pub fits : x * page_words + page_words ≤ length ps

-- ---- Chains

-- How many overflow pages a chain has, where it fits.
unfoldable pub chain_saved : Root → List ℕ → ℕ → Option ℕ
chain_saved r ps c = cond (fits_if_sound r ps c (chain_of r ps c)) (Some (length (pages_in (chain_of r ps c)))) None

-- The overflow pages of the n chains from chain c on, counted.
unfoldable pub pages_counted : Root → List ℕ → ℕ → ℕ → ℕ
pages_counted r ps zero c = 0
pages_counted r ps (suc n) c = length (pages_in (chain_of r ps c)) + pages_counted r ps n (c + 1)

unfoldable pub chains_saved : Root → List ℕ → ℕ → ℕ → Option ℕ
chains_saved r ps n c = cond (chains_fit r ps n c) (Some (pages_counted r ps n c)) None

-- ---- The file

-- The file of this root and these words, with a row of zero records and a waiting row of zeros.
abbrev pub at_rest : Root → List ℕ → List ℕ → Memory
at_rest r ls ps = record {
  root = r;
  parties = replicate r.parties idle;
  locks = ls;
  pages = ps;
  waiting = replicate r.parties 0;
}

pub record CanSurvey (r : Root) (ps : List ℕ) : Type 0 where
  pub sizes_fit : within_limits r ≡ true
  pub root_sound_ok : root_sound r ≡ true
  pub pages_many : length ps ≡ all_page_words r
