-- As blocks a history has the same operations under their new numbers, one to one, with each transaction's order kept.
use mathlib.Core.Path.{ap, ◌∙◌}
use native.Mathlib.Omega.{arith}
use Rattle.rules.specs.History.{History, op}
use Rattle.demand1.specs.Lawful.{LawfulHistory}
use Rattle.renumbering.specs.Renumbering.{Renumbers}
use Rattle.moving.specs.Renumbering.{new_number, old_number, as_blocks}
use Rattle.moving.proofs.Blocks.{in_same, before-first}
use Rattle.moving.proofs.Part.{blocks_part}
use Rattle.moving.proofs.Renumbered.{blocks_at, blocks_count, new_none, new_in, new-before, old_op, old_new, new_old}

pub renumbers : {h : History} → LawfulHistory h → Renumbers (new_number h) (old_number h) h (as_blocks h)
renumbers {h} w =
    record {
      same_txs = ap (λ (g : History). g.txs) (blocks_part h);
      as_many = blocks_count w;
      none = new_none w;
      to_op = λ i o.
          record {
            from = omega (arith, new-before w 0 i (omega arith) o.to (before-first w i o));
            to = omega (arith, new_in w i o.to, blocks_count w);
          };
      back_op = old_op w;
      back_to = λ i o. old_new w i o.to;
      to_back = λ j o. new_old w j (omega (arith, o.to, blocks_count w));
      same_op = λ i o. blocks_at h (new_number h i) ∙ ap (op h) (old_new w i o.to);
      keeps = λ i j o p e l. new-before w i j o.to p.to (in_same e l);
    }
