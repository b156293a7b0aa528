use Rattle.std.proofs.Common.{◌≡◌, ℕ, ◌+◌, ◌%◌, ◌^◌, sym, refl, ap, ◌∙◌, arith, rules}
use Rattle.std.specs.Prelude.{Ok}
use Rattle.std.proofs.lemmas.Result.{IfOk-at_ok, err_from_is_err_and}
use Rattle.rules.specs.Refusals.{numbered}
use Rattle.rules.specs.Records.{Sound}
use Rattle.rules.proofs.Refusals.{placed_ok, placed_err}
use Rattle.frame.specs.Framing.{framing}
use Rattle.frame.proofs.Frames.{good_fit}
use Rattle.trace.proofs.Places.{takable}
use Rattle.trace.proofs.Turning.{turned_bad, turned-count, turned_done, turned_go, turned_list, turned_refuse}
use Rattle.trace.specs.Turns.{finish}
use Rattle.trace.proofs.turn_at.Goals as goal
use Rattle.trace.proofs.turn_at.Goals.{In_ok-stated}

-- the framing passes
passed : (c : In_ok-stated) → c.frame_at.result ≡ Ok c.in_ok-stated.stated
passed c = placed_ok c.args.at c.frame_at.result (sym c.in_ok-stated.ensures)

framed : (c : In_ok-stated) → framing c.args.second c.args.s.now c.args.at c.args.serial ≡ Ok c.in_ok-stated.stated
framed c = sym c.frame_at.ensures.0 ∙ ap numbered (passed c)

sound : (c : In_ok-stated) → Sound c.args.at c.in_ok-stated.stated.event
sound c = IfOk-at_ok (λ x. Sound c.args.at x.event) (passed c) c.frame_at.ensures.1

pub returns-in_err-stated : goal.returns-in_err-stated
returns-in_err-stated c =
    let p = c.requires in
    let r = err_from_is_err_and c.from_residual.result c.from_residual.ensures.1 in
    let e = placed_err c.args.at c.frame_at.result (sym c.in_err-stated.ensures) in
    rw (r.1, r.2, e.2) (turned_bad _ _ _ _ _ p.1 (sym c.frame_at.ensures.0 ∙ ap numbered e.1) p.0.held, p.2)

pub take-taken-requires : goal.take-taken-requires
take-taken-requires c =
    let p = c.requires in
    let g = (goal.at.take-taken-requires c).In_ok-stated in
    (p.0.held, p.2, takable _ _ p.0.ahead _ (sound g))

pub returns-in_err-next : goal.returns-in_err-next
returns-in_err-next c =
    let g = (goal.at.returns-in_err-next c).In_ok-stated in
    let r = err_from_is_err_and c.from_residual-in_err-next.result c.from_residual-in_err-next.ensures.1 in
    let e = placed_err c.args.at c.take-taken.result (sym c.in_err-next.ensures) in
    rw (r.1, r.2, e.2) (turned_refuse _ _ _ _ _ _ _ _ c.requires.1 (framed g) (sound g) c.take-taken.ensures.took e.1, c.take-taken.ensures.beside)

pub u16_at-requires : goal.u16_at-requires
u16_at-requires c =
    let f = good_fit _ _ _ _ (framed (goal.at.u16_at-requires c).In_ok-stated) in
    omega (arith, f.six, f.room)

pub u32_at-follow-requires : goal.u32_at-follow-requires
u32_at-follow-requires c =
    let f = good_fit _ _ _ _ (framed (goal.at.u32_at-follow-requires c).In_ok-stated) in
    omega (arith, f.six, f.room)

pub returns-in-Done : goal.returns-in-Done
returns-in-Done c =
    let a = c.args in
    let g = (goal.at.returns-in-Done c).In_ok-stated in
    let q = placed_ok a.at c.take-taken.result (sym c.in_ok-next.ensures) ∙ ap Ok c.in-Done.is in (
      turned_done _ _ _ _ _ _ _ _ c.requires.1 (framed g) (sound g) c.take-taken.ensures.took q
          (c.finish.ensures ∙ ap (λ (n : ℕ). finish a.s.now (a.at + 2 + n) a.notes) c.u16_at.ensures),
      c.take-taken.ensures.beside,
    )

pub returns-in-Go : goal.returns-in-Go
returns-in-Go c =
    let a = c.args in
    let g = (goal.at.returns-in-Go c).In_ok-stated in
    let q = placed_ok a.at c.take-taken.result (sym c.in_ok-next.ensures) ∙ ap Ok c.in-Go.is in (
      turned_go _ _ _ _ _ _ _ _ c.requires.1 (framed g) (sound g) c.take-taken.ensures.took q
          (ap (λ (n : ℕ). a.at + 2 + n) c.u16_at.ensures) (ap (λ (n : ℕ). (n + 1) % 2 ^ 32) c.u32_at-follow.ensures),
      c.take-taken.ensures.beside,
    )

pub returns-in-Count : goal.returns-in-Count
returns-in-Count c =
    let a = c.args in
    let g = (goal.at.returns-in-Count c).In_ok-stated in
    let q = placed_ok a.at c.take-taken.result (sym c.in_ok-next.ensures) ∙ ap Ok c.in-Count.is in (
      turned-count _ _ _ _ _ _ _ _ c.requires.1 (framed g) (sound g) c.take-taken.ensures.took q
          (ap (λ (n : ℕ). a.at + 2 + n) c.u16_at.ensures) (ap (λ (n : ℕ). (n + 1) % 2 ^ 32) c.u32_at-follow.ensures) refl,
      c.take-taken.ensures.beside,
    )

pub returns-in-List : goal.returns-in-List
returns-in-List c =
    let a = c.args in
    let g = (goal.at.returns-in-List c).In_ok-stated in
    let q = placed_ok a.at c.take-taken.result (sym c.in_ok-next.ensures) ∙ ap Ok c.in-List.is in (
      turned_list _ _ _ _ _ _ _ _ c.requires.1 (framed g) (sound g) c.take-taken.ensures.took q
          (ap (λ (n : ℕ). a.at + 2 + n) c.u16_at.ensures) (ap (λ (n : ℕ). (n + 1) % 2 ^ 32) c.u32_at-follow.ensures),
      c.take-taken.ensures.beside,
    )
