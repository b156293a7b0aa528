use mathlib.Core.Path.{sym, ◌∙◌}
use native.Mathlib.Omega.{arith}
use Rattle.table.proofs.Chain.{chain_has}
use Rattle.pairs.proofs.Pairs.{byte_source, byte_row}
use Rattle.rivals.proofs.Rivals.{candidates_chosen, told_clean, told-row, remains_told, remains_searched}
use Rattle.rivals.proofs.Sight.mark_read.Goals as goal

pub overflow_sub-self : goal.overflow_sub-self
overflow_sub-self c =
    let o = chain_has c.requires.1.held c.requires.3 c.requires.2 in
    omega (arith, byte_source c.args.self.now.ready o (told_clean _ _ _ (sym c.is_told.ensures ∙ c.if-is_told.true)))

pub or_row-requires : goal.or_row-requires
or_row-requires c =
    let o = chain_has c.requires.1.held c.requires.3 c.requires.2 in
    (c.requires.0, byte_row c.args.self.now.ready o (told_clean _ _ _ (sym c.is_told.ensures ∙ c.if-is_told.true)))

pub returns-then-is_told : goal.returns-then-is_told
returns-then-is_told c =
    let o = chain_has c.requires.1.held c.requires.3 c.requires.2 in
    let told = sym c.is_told.ensures ∙ c.if-is_told.true in
    record {
      goes =
          λ m j q.
          remains_told c.requires.3 c.requires.4 c.requires.2 c.candidates-lo.ensures c.candidates-hi.ensures q c.args.self.now.levels.0 c.args.self.now.levels.1 told
          (told-row _ _ _ c.args.self.now.ready o told c.or_row.ensures);
    }

pub mark_rivals_at-requires : goal.mark_rivals_at-requires
mark_rivals_at-requires c =
    let chosen = candidates_chosen c.requires.3 c.requires.4 c.requires.2 c.candidates-lo.ensures c.candidates-hi.ensures in
    (c.requires.0, chosen, c.requires.1, c.requires.3)

pub returns : goal.returns
returns c =
    record {
      goes =
          λ m j q.
          remains_searched c.requires.3 c.requires.4 c.requires.2 c.candidates-lo.ensures
          c.candidates-hi.ensures q c.without.ensures c.without-2.ensures c.mark_rivals_at.ensures;
    }
