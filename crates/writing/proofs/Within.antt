-- The length that a call answers, 0 on refusal, lies within its buffer.
use Prim.Native.Nat.{ℕ, ◌≤◌}
use mathlib.Core.Path.{◌≡◌, refl, ap, subst, sym, ◌∙◌}
use mathlib.Core.Bool.{true, true≢false}
use mathlib.Core.List.{List}
use native.Mathlib.Omega.{arith}
use lib.Dec.{ltb}
use lib.ListN.{length, take, drop, length-append}
use Rattle.base.specs.Base.{pick}
use Rattle.base.proofs.Tests.{ifso}
use Rattle.rules.specs.Numbers.{over}
use Rattle.rules.specs.Records.{serial_at}
use Rattle.writing.specs.Filling.{Said, Work, refusal, content, Fill, fill_of, into}
use Rattle.writing.specs.Writing.{written}
use Rattle.writing.specs.Listing.{stepped}
use Rattle.writing.specs.Rewriting.{again, rewritten}

-- what a call comes to
abbrev Within : Fill → Type 0
Within x = x.answer.length ≤ length x.buffer

into_within : (w : Work) (o : List ℕ) → Within (into w o)
unfolding into over pick
into_within (refusal n p) o = omega arith
into_within (content l) o =
    ifso (ltb (length o) (length l)) (λ (t : ltb (length o) (length l) ≡ true). rw t (omega arith))
    (λ f. rw f (omega (arith, length-append l (drop (length l) o))))

-- a refusal's length
refused_none : (w : Work) (o : List ℕ) → (into w o).answer.is_refused ≡ true → (into w o).answer.length ≡ 0
unfolding into pick
refused_none (refusal n p) o e = refl
refused_none (content l) o e =
    ifso (ltb (length o) (length l)) (λ (t : ltb (length o) (length l) ≡ true). rw t) (λ f. absurd (true≢false (sym e ∙ rw f)))

module _ (a : Said) (b : List ℕ) where
  pub filled_within : (w : Work) (o : List ℕ) → fill_of a b ≡ into w o → a.length ≤ length b
  filled_within w o e = subst Within (sym e) (into_within w o)

  pub written_within : (s : List ℕ) (k : ℕ) (o : List ℕ) → fill_of a b ≡ written s k o → a.length ≤ length b
  unfolding written
  written_within s k o e = filled_within _ o e

  pub stepped_within : (s o : List ℕ) → fill_of a b ≡ stepped s o → a.length ≤ length b
  unfolding stepped
  stepped_within s o e = filled_within _ o e

  pub rewritten_within : (s x o : List ℕ) → fill_of a b ≡ rewritten s x o → a.length ≤ length b
  unfolding rewritten again pick stepped
  rewritten_within s x o e =
      ifso (stepped s x).answer.is_refused
      (λ t. let d : fill_of a b ≡ fill_of (stepped s x).answer o = rw t at e in omega (arith, ap (λ (y : Fill). y.answer.length) d, refused_none _ x t))
      (λ f. written_within (take (stepped s x).answer.length (stepped s x).buffer) (serial_at s 0) o (rw f at e))
