use Prim.Native.Nat.{ℕ}
use mathlib.Core.Path.{◌≡◌}
use mathlib.Core.Bool.{not}
use Rattle.std.specs.Prelude.{Some, MatchOption}
use Rattle.base.specs.Base.{pick}
use Rattle.rules.specs.History.{op}
use Rattle.table.specs.Table.{history_of}
use Rattle.appends_rules.specs.Appends.{values_at, lists_in}
use Rattle.appends_rules.specs.ListKinds.{in_line, is_half, list_at}
use Rattle.elements.specs.Elements.{number_or_0}
use Rattle.std.proofs.Common.{rules}
use Rattle.grading.proofs.Spots.{longest_has, told_kind}
use Rattle.grading.proofs.Grades.{graded_fresh, scanned_marked}
use Rattle.grading.proofs.kind_of.Goals as goal

pub scan-fault-requires : goal.scan-fault-requires
scan-fault-requires c =
    let p = c.requires in (
      c.spot_of-e.ensures.keyed,
      graded_fresh _ _ p.0.graded p.0.settled.held.most p.0.this.there.there.to
          c.spot_of-e.ensures.keyed.small,
    )

pub or_else-requires : goal.or_else-requires
or_else-requires c =
    let p = c.requires in
    let k = c.spot_of-e.ensures.keyed in
    let g = longest_has _ _ _ p.0.this.there.there p.1 in
    let w = p.0.within in
    let o = p.0.this.there.there in
    search rules

pub returns : goal.returns
returns c =
    let p = c.requires in
    let H = history_of c.args.h.now in
    let e = c.spot_of-e.result in
    let v = values_at c.args.s.now e.at in
    let late : ℕ = pick (is_half H (op H c.args.i).tx e.key v) 10 (pick (not (in_line v (list_at (lists_in c.args.s.now H) c.args.m))) 11 0) in
    let q : MatchOption c.from_number.result (number_or_0 c.or_else.result ≡ late) (λ k. c.or_else.result ≡ Some k) = search rules in
    record {
      is = told_kind _ _ _ c.spot_of-e.ensures p.1 _ _ c.scan-fault.ensures.kind c.from_number.ensures q;
      marked = scanned_marked _ c.spot_of-e.ensures.keyed.small c.scan-fault.ensures;
    }
