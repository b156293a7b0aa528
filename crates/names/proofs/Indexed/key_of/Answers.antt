use native.Mathlib.Omega.{arith}
use Rattle.names.proofs.Halving.{entry-fits}
use Rattle.names.proofs.Indexed.key_of.Goals as goal

pub u32_at-requires : goal.u32_at-requires
u32_at-requires c = let f = entry-fits c.args.self.now.lawful _ c.requires in omega (arith, f.least, f.room, c.from.ensures)
