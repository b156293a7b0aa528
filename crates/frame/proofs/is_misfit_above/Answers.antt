use mathlib.Core.Path.{◌≡◌, refl, sym, ◌∙◌}
use mathlib.Core.Logic.{⊎_elim}
use Rattle.frame.proofs.Frames.{misfit_append, misfit_list}
use Rattle.frame.proofs.is_misfit_above.Goals as goal

pub returns-then-kind-eq23 : goal.returns-then-kind-eq23
returns-then-kind-eq23 c = sym (misfit_append _ _ c.if-kind-eq23.true)

pub is_list_misfit-requires : goal.is_list_misfit-requires
is_list_misfit-requires c = let p = c.requires in (p.1, p.2)

pub returns : goal.returns
returns c =
    let e : c.args.kind ≡ 24 = ⊎_elim (λ e. absurd (c.if-kind-eq23.false e)) (λ e. e) c.requires.0 in
    c.is_list_misfit.ensures ∙ misfit_list _ _ refl ∙ sym (misfit_list _ _ e)
