use mathlib.Core.Path.{sym, ap, ◌∙◌}
use native.Mathlib.Omega.{arith}
use Rattle.base.proofs.Tests.{denied, granted}
use Rattle.claims_rules.specs.Claims.{no_read, unclean, reply}
use Rattle.claims_rules.proofs.Claims.{unclean-none, unclean-some, in_unclean, in_strange, in_paired}
use mathlib.Core.Bool.{not}
use Rattle.claims.proofs.claim_history.Goals as goal

pub count_findings-requires : goal.count_findings-requires
count_findings-requires c = c.requires.ready

pub first_finding-requires : goal.first_finding-requires
first_finding-requires c = c.requires.ready

pub returns-then-count_findings-ne0 : goal.returns-then-count_findings-ne0
unfolding reply unclean
returns-then-count_findings-ne0 c =
    let n = c.count_findings.ensures.0 in
    ap no_read c.first_finding.ensures ∙ sym (in_unclean _ _ _ (unclean-some _ (λ z. c.if-count_findings-ne0.true (n ∙ z))))

-- of the history, those that count, m, are known
pub returns-then-not-has_members : goal.returns-then-not-has_members
unfolding reply
returns-then-not-has_members c =
    let p = c.requires in
    let few = p.ready.settled.held.few in
    let n = c.count_findings.ensures.0 in
    sym
    (in_strange _ _ _ (unclean-none _ (sym n ∙ c.if-count_findings-ne0.false))
    (denied (c.has_members.ensures _ (omega (arith, few)) c.members-m.ensures) (ap not c.if-not-has_members.true)))

pub claim_pairs-requires : goal.claim_pairs-requires
claim_pairs-requires c =
    let p = c.requires in
    let few = p.ready.settled.held.few in
    (p, c.members-m.ensures, granted (c.has_members.ensures _ (omega (arith, few)) c.members-m.ensures) (ap not c.if-not-has_members.false))

pub returns : goal.returns
returns c =
    let p = c.requires in
    let few = p.ready.settled.held.few in
    let n = c.count_findings.ensures.0 in
    c.claim_pairs.ensures
    ∙ sym
    (in_paired _ _ _ (unclean-none _ (sym n ∙ c.if-count_findings-ne0.false))
    (granted (c.has_members.ensures _ (omega (arith, few)) c.members-m.ensures) (ap not c.if-not-has_members.false)))
