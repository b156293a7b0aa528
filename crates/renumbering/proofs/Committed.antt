-- The same transactions count as committed.
use Prim.Native.Nat.{ℕ}
use mathlib.Core.Path.{◌≡◌, fun_ext}
use Rattle.rules.specs.History.{History, says_committed, is_unanswered, takes_from, vouches, committed}
use Rattle.demand1.specs.Lawful.{IsOp, LawfulHistory}
use Rattle.renumbering.specs.Renumbering.{Renumbers}
use Rattle.renumbering.proofs.Numbers.{same_tx, same_size}
use Rattle.renumbering.proofs.Searches.{some-all}
use Rattle.renumbering.proofs.Origins.{same_source}

module _ {to back : ℕ → ℕ} {h g : History} (ok : LawfulHistory h) (r : Renumbers to back h g) where
  same_takes : (a u i : ℕ) → IsOp h i → takes_from g a u (to i) ≡ takes_from h a u i
  unfolding takes_from
  same_takes a u i o = rw (r.same_op i o, same_source ok r i o)

  same-vouches : vouches g ≡ vouches h
  unfolding vouches is_unanswered
  same-vouches =
      fun_ext (λ a. fun_ext (λ u. rw (same_tx r, some-all r (takes_from h a u) (takes_from g a u) (same_takes a u))))

  same_says : says_committed g ≡ says_committed h
  unfolding says_committed
  same_says = fun_ext (λ t. rw (same_tx r))

  pub same-committed : committed g ≡ committed h
  unfolding committed
  same-committed = fun_ext (λ t. rw (same_says, same-vouches, same_size r))
