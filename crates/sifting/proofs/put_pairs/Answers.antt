use Prim.Native.Nat.{◌+◌}
use mathlib.Core.Path.{◌≡◌, refl}
use native.Mathlib.Omega.{arith}
use Rattle.rules.specs.History.{size}
use Rattle.table.specs.Table.{history_of}
use Rattle.sifting.specs.Lists.{pair_count, seconds_of, all_for}
use Rattle.sifting.proofs.Pairs.{all_fit}
use Rattle.sifting.proofs.put_pairs.Goals as goal

pub put_listed-requires : goal.put_listed-requires
unfolding pair_count seconds_of all_for
put_listed-requires c =
    let p = c.requires in
    let n : c.txs.result + 1 ≡ size (history_of c.args.h.now) = omega (arith, c.txs.ensures) in
    rw n (
      record { few = omega (arith, p.0.settled.held.few); pairs = λ a b l m. (p.0, record { one = l; two = m }) },
      all_fit _ _ _ 0 refl (omega (arith, p.1)),
    )
