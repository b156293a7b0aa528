use Prim.Native.Nat.{ℕ, ◌+◌}
use mathlib.Core.Path.{refl, ap}
use native.Mathlib.Omega.{arith}
use Rattle.causal.proofs.Given.{fresh}
use Rattle.claims_rules.proofs.Few.{members_many}
use Rattle.claims.proofs.TurnedFirsts.{seats_small}
use Rattle.claims.proofs.claim_pairs.Goals as goal

pub fill_priors-requires : goal.fill_priors-requires
fill_priors-requires c = (c.requires.0.ready.settled, fresh)

pub force-requires : goal.force-requires
force-requires c =
    let p = c.requires in (
      p.0,
      record { settled = p.0.ready.settled; priors = c.fill_priors.ensures; members = p.1; many = members_many _ _ p.2 },
      refl,
      refl,
      refl,
    )

pub try_pairs-requires : goal.try_pairs-requires
try_pairs-requires c =
    let p = c.requires in
    let few = p.0.ready.settled.held.few in
    (seats_small _ _ (omega (arith, few)) p.2, omega (arith, few, c.txs.ensures))

pub returns : goal.returns
returns c =
    let p = c.requires in
    let n = c.txs.ensures in
    rw n at (c.try_pairs.ensures _ _ (ap (λ (x : ℕ). x + 1) n) p.2 c.force.ensures.0.forces)
