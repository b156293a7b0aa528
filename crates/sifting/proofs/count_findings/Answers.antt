use mathlib.Core.Path.{◌≡◌, ap, sym, ◌∙◌}
use Prim.Native.Nat.{◌+◌}
use lib.ListN.{length}
use native.Mathlib.Omega.{arith}
use Rattle.std.specs.List.{count_by, slice_range}
use Rattle.std.proofs.lemmas.Grind.{common_steps}
use Rattle.rules.specs.Reads.{is_finding}
use Rattle.table.specs.Table.{history_of}
use Rattle.sifting.specs.Lists.{is_kind}
use Rattle.sifting.proofs.Listings.{counted, those_most}
use Rattle.sifting.proofs.Findings.{findings-listed, kind_says}
use Rattle.sifting.proofs.count_findings.Goals as goal

pub returns : goal.returns
returns c =
    let p = c.requires in
    let o = c.ops-n.ensures in
    let most = p.settled.held.most in
    let e : c.loop-v.found ≡ count_by is_kind (slice_range c.args.k.now 1 (c.ops-n.result + 1)) = grind (arith, common_steps) in
    let f =
    e ∙ counted (is_finding (history_of c.args.h.now)) is_kind c.args.k.now c.ops-n.result (omega (arith, p.judged.room))
    (λ i a b. kind_says p.judged i a (omega arith)) in
    (f ∙ rw o (ap length (sym (findings-listed _))), omega (arith, f, those_most (is_finding (history_of c.args.h.now)) 1 (c.ops-n.result + 1)))
