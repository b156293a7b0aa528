-- What is promised of a call that fills a lent buffer, of any answer r and of what the buffer then holds. `said`, or `says`, gives an answer's numbers.
use Rattle.std.specs.Prelude.{ℕ, ◌≡◌, true, List, ◌↔◌, length, Result, Ok, Err}
use Rattle.rules.specs.Numbers.{over}
use Rattle.rules.specs.Refusals.{Declined}
use Rattle.writing.specs.Filling.{Said, refusing, answering, said, Filled}

-- something of which P holds was put over o, which made b of it; m, which is answered, is its length
pub record FilledWith (P : List ℕ → Type 0) (o b : List ℕ) (m : ℕ) : Type 0 where
  pub content : List ℕ
  pub good : P content
  pub long : m ≡ length content
  pub is : b ≡ over content o

-- refused, with number and place, exactly where D says so, and then no byte changes; else the buffer is filled with what P says
pub record FillsBy {R : Type 0} (says : R → Said) (D : ℕ → ℕ → Type 0) (P : List ℕ → Type 0) (o : List ℕ) (r : R) (b : List ℕ) : Type 0 where
  pub refused : (m p : ℕ) → (says r ≡ refusing m p) ↔ D m p
  pub unchanged : (says r).is_refused ≡ true → b ≡ o
  pub filled : (m : ℕ) → says r ≡ answering m → FilledWith P o b m

-- .. of the answers that calls give
abbrev pub Fills : (ℕ → ℕ → Type 0) → (List ℕ → Type 0) → List ℕ → Filled → List ℕ → Type 0
Fills = FillsBy said

-- what an answer says that may have any number, not one of the table's alone
unfoldable pub saying : Result ℕ Declined → Said
saying (Err d) = refusing d.no d.place
saying (Ok n) = answering n
