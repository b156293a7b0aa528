use denote.Enum.Declared.{tag_of}
use native.Mathlib.Omega.{arith}
use Rattle.reads.specs.contracts.Kind.{the_type}
use Rattle.reads.specs.declared.Kind.{Kind}
use Rattle.reads.specs.declared.Kind.TheVariants.{ThinAir, Aborted, Future, NotMyLast, NotMyOwn, Intermediate}
use Rattle.reads.specs.Kinds.{number_of}
use Rattle.base.proofs.Tests.{not-true, not-false}
use Rattle.rules.specs.History.{committed}
use Rattle.reads.proofs.Entries.{verdict_write, verdict_unjudged, verdict_kind, verdict_internal, verdict_external}
use mathlib.Core.Path.{◌≡◌, refl, ap, sym, ◌∙◌}
use Prim.Native.Nat.{ℕ, ◌+◌, ◌≤◌}
use mathlib.Core.Bool.{not}
use Rattle.reads.proofs.verdict_of.Goals as goal

-- the number of a kind is what `as u8` gives, and not 0
tag-number : (k : Kind) → tag_of the_type k + 1 ≡ number_of k
tag-number ThinAir = refl
tag-number Aborted = refl
tag-number Future = refl
tag-number NotMyLast = refl
tag-number NotMyOwn = refl
tag-number Intermediate = refl

number_from : (k : Kind) → 1 ≤ number_of k
number_from k = omega (arith, tag-number k)

pub returns-then-is_write : goal.returns-then-is_write
returns-then-is_write c =
    verdict_write _ _ (sym c.is_write.ensures ∙ c.if-is_write.true)

pub returns-then-not-is_committed : goal.returns-then-not-is_committed
returns-then-not-is_committed c =
    verdict_unjudged _ _ (sym c.is_write.ensures ∙ c.if-is_write.false)
    (ap (committed _) (sym c.tx_of-t.ensures.is)
    ∙ sym c.is_committed.ensures ∙ not-true c.is_committed.result (ap not c.if-not-is_committed.true))

pub returns-in-Some : goal.returns-in-Some
returns-in-Some c =
    let k = c.in-Some.kind in
    tag-number k ∙ c.in-Some.ensures
    ∙ verdict_kind _ _ (sym c.is_write.ensures ∙ c.if-is_write.false)
    (ap (committed _) (sym c.tx_of-t.ensures.is)
    ∙ sym c.is_committed.ensures ∙ not-false c.is_committed.result (ap not c.if-not-is_committed.false))
    (λ q. omega (arith, number_from k, c.in-Some.ensures ∙ q))

pub returns-then-s-t : goal.returns-then-s-t
returns-then-s-t c =
    verdict_internal _ _ (sym c.is_write.ensures ∙ c.if-is_write.false)
    (ap (committed _) (sym c.tx_of-t.ensures.is)
    ∙ sym c.is_committed.ensures ∙ not-false c.is_committed.result (ap not c.if-not-is_committed.false))
    (sym c.in_default.ensures)
    (sym c.source_of-s.ensures.is ∙ c.if-s-t.true ∙ c.tx_of-t.ensures.is)

pub returns : goal.returns
returns c =
    ap (λ (s : ℕ). 8 + s) c.source_of-s.ensures.is
    ∙ verdict_external _ _ (sym c.is_write.ensures ∙ c.if-is_write.false)
    (ap (committed _) (sym c.tx_of-t.ensures.is)
    ∙ sym c.is_committed.ensures ∙ not-false c.is_committed.result (ap not c.if-not-is_committed.false))
    (sym c.in_default.ensures)
    (λ q. c.if-s-t.false (c.source_of-s.ensures.is ∙ q ∙ sym c.tx_of-t.ensures.is))
