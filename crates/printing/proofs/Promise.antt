-- What the promises of `put_answer` and `answer_text` give their callers.
use Prim.Native.Nat.{ℕ, ◌≤◌}
use mathlib.Core.Path.{◌≡◌, refl, sym, ◌∙◌}
use mathlib.Core.List.{List}
use native.Mathlib.Omega.{arith}
use lib.ListN.{length, take}
use Rattle.rules.proofs.Numbers.{over-whole}
use Rattle.demand1.proofs.Readings.{kept_same}
use Rattle.text.specs.Answer.{reading_text, answer_text}
use Rattle.printing.specs.Printing.{Written}

-- one answer, and one content of the buffer
pub answer_one : {s o b c : List ℕ} {n m : ℕ} → Written s o b n → Written s o c m → (n ≡ m) × (b ≡ c)
answer_one x y = (x.end ∙ sym y.end, x.is ∙ sym y.is)

-- with a buffer of 1,048,576 bytes or more, the first n bytes are the whole text
pub answer_whole : {s o b : List ℕ} {n : ℕ} → Written s o b n → 1048576 ≤ length o → take n b ≡ answer_text s
answer_whole {s} {o} x h = rw (x.is, x.end) (over-whole (answer_text s) o (omega (arith, x.end, x.short)))

-- "keeping 32,769 bytes at most" does no harm: the text of the bytes kept is the text of all of them
pub kept-text : (s : List ℕ) → answer_text (take 32769 s) ≡ answer_text s
unfolding answer_text
kept-text = kept_same (λ _ r. reading_text r) (λ _ _ _ _. refl)
