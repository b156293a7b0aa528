-- What the functions that put a text together say of their parts.
use Rattle.std.specs.Prelude.{ℕ, ◌≤◌, ◌≡◌, List, [], length, take, Result, Ok, Err}
use Rattle.rules.specs.Numbers.{over}
use Rattle.rules.specs.Refusals.{cause_no}
use Rattle.rules.specs.declared.Refusal.{Refusal}
use Rattle.text.specs.Lines.{refused_line, notes_line}
use Rattle.writing.specs.Filling.{Filled}

-- the text of an answer, where the buffer then holds b: what was put at its front, or the line of a refusal
unfoldable pub filled_text : Filled → List ℕ → List ℕ
filled_text (Err r) b = refused_line (cause_no r.cause) r.place
filled_text (Ok n) b = take n b

-- .. of a reading's number of notes
unfoldable pub read_text : Result ℕ Refusal → List ℕ
read_text (Err r) = []
read_text (Ok notes) = notes_line notes

-- the text t stands at the front of b, which was made of o, and ends at n
pub record Fronts (t o b : List ℕ) (n : ℕ) : Type 0 where
  pub end : n ≡ length t
  pub fits : n ≤ length o
  pub is : b ≡ over t o
