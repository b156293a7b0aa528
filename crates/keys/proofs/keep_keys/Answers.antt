use Prim.Native.Nat.{◌+◌}
use mathlib.Core.Path.{◌≡◌, sym, ap, ◌∙◌}
use native.Mathlib.Omega.{arith}
use lib.ListN.{replicate}
use lib.Seq.{length-take-le}
use Rattle.rules.specs.History.{op_count}
use Rattle.table.specs.Table.{history_of}
use Rattle.keys.specs.Keys.{key_read}
use Rattle.keys.proofs.Keys.{keys_start}
use Rattle.keys.proofs.keep_keys.Goals as goal

pub slice_bounds-fill-end-2 : goal.slice_bounds-fill-end-2
slice_bounds-fill-end-2 c = sym (length-take-le 128 c.args.r.now (omega arith))

pub loop-i-init : goal.loop-i-init
loop-i-init c = (omega arith, keys_start _ c.requires.1 (c.fill.ensures.after (λ y e. e) ∙ ap (λ n. replicate n 0) (length-take-le 128 c.args.r.now (omega arith))))

pub returns : goal.returns
unfolding key_read
returns c =
    let l = c.loop-i in
    let h = history_of c.args.h.now in
    let e : l.i ≡ op_count h + 1 = omega (arith, l.invariant.0, c.loop-i-test.false, c.ops-i-end.ensures) in
    rw e at l.invariant.1

pub returns-2 : goal.returns-2
unfolding key_read
returns-2 c =
    let l = c.loop-i in
    let h = history_of c.args.h.now in
    let e : l.i ≡ op_count h = omega arith in
    rw e at (c.keep_key.ensures _ l.invariant.1)
