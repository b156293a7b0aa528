-- Which bits the tables of dependencies get. Row b has what stands before b.
use Rattle.std.specs.Prelude.{ℕ, ◌+◌, ◌-◌, Bool, not, List, ltb, eqb, length}
use Rattle.base.specs.Base.{◌and◌, pick}
use Rattle.rules.specs.History.{History, op}
use Rattle.pairs.specs.Pairs.{cell, across}
use Rattle.appends_rules.specs.Appends.{key_of, appender_of}
use Rattle.appends_rules.specs.ListKinds.{element, last_element, is_clean_list}
use Rattle.appends_rules.specs.Dependencies.{is_write_dep, is_read_dep}

-- the dependencies of one sort
unfoldable pub deps_of : Bool → History → (ℕ → List ℕ) → ℕ → ℕ → Bool
deps_of reads h l a b = pick reads (is_read_dep h l a b) (is_write_dep h l a b)

-- the pair (a, b), where they differ
unfoldable pub tied : ℕ → ℕ → ℕ → ℕ → Bool
tied a b = cell (not (eqb a b)) b a

-- the appenders of elements k and k + 1 of the list e of x; of all neighbours
unfoldable pub next_tie : History → ℕ → List ℕ → ℕ → ℕ → ℕ → Bool
next_tie h x e k = tied (appender_of h x (element e k)) (appender_of h x (element e (k + 1)))

unfoldable pub next_ties : History → ℕ → List ℕ → ℕ → ℕ → Bool
next_ties h x e = across 0 (length e - 1) (next_tie h x e)

-- the appender of the last element, and the reader t
unfoldable pub last_tie : History → ℕ → List ℕ → ℕ → ℕ → ℕ → Bool
last_tie h x e t a b = ltb 0 (length e) and tied (appender_of h x (last_element e)) t a b

-- of list read i, where it is clean
unfoldable pub ties_of : Bool → History → (ℕ → List ℕ) → ℕ → ℕ → ℕ → Bool
ties_of reads h l i a b = is_clean_list h l i and pick reads (last_tie h (key_of h i) (l i) (op h i).tx a b) (next_ties h (key_of h i) (l i) a b)
