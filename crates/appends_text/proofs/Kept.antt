-- What the program `lists` does not keep changes nothing: the bytes behind 32,769 of a trace.
use Prim.Native.Nat.{ℕ}
use mathlib.Core.Path.{◌≡◌, refl}
use mathlib.Core.List.{List}
use lib.ListN.{take}
use Rattle.demand1.proofs.Readings.{kept_same}
use Rattle.appends_text.specs.ListsText.{lists_read_text, lists_text}

-- of a refused trace the text looks at the refusal alone
pub kept_lists : (s : List ℕ) → lists_text (take 32769 s) ≡ lists_text s
unfolding lists_text lists_read_text
kept_lists = kept_same lists_read_text (λ _ _ _ _. refl)
