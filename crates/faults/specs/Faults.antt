-- What operation i adds to the list of findings.
use Rattle.std.specs.Prelude.{ℕ, List, []}
use Rattle.base.specs.Base.{pick}
use Rattle.rules.specs.History.{History}
use Rattle.appends_rules.specs.ListKinds.{is_list_finding}
use Rattle.appends_rules.specs.ListOutcome.{list_finding_bytes}

unfoldable pub finding_in : History → (ℕ → List ℕ) → ℕ → List ℕ
finding_in h l i = pick (is_list_finding h l i) (list_finding_bytes h l i) []
