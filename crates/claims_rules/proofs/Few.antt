-- A claim whose members are right has as many entries as transactions count as committed, and no more than there are transactions, 0 among them.
use Prim.Native.Nat.{ℕ, ◌≤◌}
use mathlib.Core.Path.{◌≡◌}
use mathlib.Core.Bool.{true, false, false≢true}
use mathlib.Core.List.{List}
use native.Mathlib.Omega.{arith}
use lib.ListN.{length}
use Rattle.base.specs.Base.{count}
use Rattle.base.proofs.Searches.{count_most}
use Rattle.theory.specs.Order.{Lawful}
use Rattle.theory.proofs.Order.{lawful_length}
use Rattle.rules.specs.History.{History, size, committed}
use Rattle.rules.proofs.Committed.{committed_below}
use Rattle.claims_rules.specs.Claims.{has_members}
use Rattle.claims_rules.proofs.Members.{seated}

module _ (h : History) (o : List ℕ) where
  -- it is an order of those that count, none of them forced
  unforced : has_members h o ≡ true → Lawful (size h) (committed h) (λ a b. false) o
  unforced e =
      let s = seated h o e in
      record {
        lists = λ i l. (committed_below h _ (s.count i l), s.count i l);
        once = s.once;
        has = λ a l c. s.all a c;
        first = s.zero_first;
        before = λ a b f. absurd (false≢true f);
      }

  pub members_many : has_members h o ≡ true → length o ≡ count 0 (size h) (committed h)
  members_many e = lawful_length (unforced e)

  pub members_few : has_members h o ≡ true → length o ≤ size h
  members_few e = omega (arith, members_many e, count_most (committed h) (size h) 0)
