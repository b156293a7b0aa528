-- Document 01's worked traces, specs/Cases.antt, come out at each level as the document says.
use Rattle.std.specs.Prelude.{ℕ, zero, suc, ◌<◌, ◌≡◌, refl, length, get_or}
use mathlib.Core.List.{List, [], ◌∷◌, map, head-eq_of_cons-eq, tail-eq_of_cons-eq}
use Rattle.std.proofs.Common.{not-suc-le-zero, le_of_suc-le-suc}
use Rattle.rules.proofs.Edges.{as_they_should}
use Rattle.rules.specs.Cases.{Case, all, refuses_with, table, found}

pub as_the_document_says : map found table ≡ table
unfolding as_they_should
as_the_document_says = refl

-- a list that a function leaves as it is: so it leaves each member
pub fixed : {A : Type 0} (f : A → A) (l : List A) → map f l ≡ l → (k : ℕ) (d : A) → k < length l → f (get_or l k d) ≡ get_or l k d
fixed f [] e k d h = absurd (not-suc-le-zero h)
fixed f (x ∷ xs) e zero d h = head-eq_of_cons-eq e
fixed f (x ∷ xs) e (suc k) d h = fixed f xs (tail-eq_of_cons-eq e) k d (le_of_suc-le-suc h)

-- so each case, at each level, comes out as the document says
pub at_each : (k : ℕ) (d : Case) → k < length table → found (get_or table k d) ≡ get_or table k d
at_each = fixed found table as_the_document_says

-- "187 bytes"
pub case_16_length : length (get_or table 15 (all [] (refuses_with 0 0))).bytes ≡ 187
unfolding as_they_should
case_16_length = refl
