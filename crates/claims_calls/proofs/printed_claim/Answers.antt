use mathlib.Core.Path.{sym}
use borrow.Author.Rules.{rules}
use Rattle.claims_laws.proofs.Told.{claim_printed_iff}
use Rattle.claims_calls.proofs.printed_claim.Goals as goal

pub returns : goal.returns
returns c = (claim_printed_iff _ _ _ _).0 (sym c.claim_text.ensures.0)
