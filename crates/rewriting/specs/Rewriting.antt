-- What the call promises of its lent buffers.
use Rattle.std.specs.Prelude.{ℕ, ◌≡◌, List}
use Rattle.writing.specs.Filling.{Filled, said, fill_of}
use Rattle.writing.specs.Listing.{stepped}
use Rattle.writing.specs.Rewriting.{rewritten}

-- the answer r to the trace s, which made x₂ of the buffer x for the steps and out₂ of the buffer `out` for the trace
pub record Rewrote (r : Filled) (s x x₂ out out₂ : List ℕ) : Type 0 where
  pub is : fill_of (said r) out₂ ≡ rewritten s x out
  pub steps : x₂ ≡ (stepped s x).buffer
