-- How an answer is told, as a line and for C: what is computed is what the document says, and there is one way to tell it.
use Prim.Native.Nat.{ℕ, ◌<◌, ◌≤◌}
use mathlib.Core.Path.{◌≡◌, ap, sym, ◌∙◌}
use mathlib.Core.List.{List}
use mathlib.Core.Logic.{◌↔◌}
use native.Mathlib.Omega.{arith}
use Rattle.rules.specs.History.{History}
use Rattle.demand1.specs.Lawful.{LawfulHistory}
use Rattle.demand1.proofs.Lawful.{lawful_history}
use Rattle.demand1.proofs.Lengths.{refused_small}
use Rattle.demand3.proofs.Forced.{forced_iff}
use Rattle.rules.proofs.Forced.{forces}
use Rattle.deciding.specs.Deciding.{whole_put}
use Rattle.decided.proofs.Counts.{five-told, five_one}
use Rattle.claims_rules.specs.Claims.{Reply, holds, no_read, no_members, no_pair, declined, claimed}
use Rattle.claims_rules.specs.Lines.{reply_line, claim_text}
use Rattle.claims_rules.specs.Numbers.{reply_no, reply_bytes, InNumbers, in_numbers, claimed_in_numbers}
use Rattle.claims_laws.specs.Claims.{ClaimSays, right, wrong_read, wrong_members, wrong_pair, Claims, no_level, reading_refused, of_history}
use Rattle.claims_laws.specs.Told.{ClaimPrinted, printed, NumbersTold, of_yes, of_read, of_members, of_pair, of_refusal, ClaimNumbered}
use Rattle.claims_laws.proofs.Claims.{claims, claims-is, claims_one}

-- ── a line ──

module _ (s : List ℕ) (level : ℕ) (o : List ℕ) where
  line_printed : ClaimPrinted s level o (claim_text s level o)
  unfolding claim_text
  line_printed = printed (claims s level o)

  printed_line : {t : List ℕ} → ClaimPrinted s level o t → claim_text s level o ≡ t
  unfolding claim_text
  printed_line (printed x) = ap reply_line (claims-is s level o x)

  -- what is computed is printed, and nothing else is
  pub claim_printed_iff : (t : List ℕ) → (claim_text s level o ≡ t) ↔ ClaimPrinted s level o t
  claim_printed_iff t = (λ e. rw e at line_printed, printed_line)

-- ── for C ──

-- numbers that four bytes can spell
pub data Spelt : Reply → Type 0 where
  yes_spelt : Spelt holds
  read_spelt : {i : ℕ} → i < 4294967296 → Spelt (no_read i)
  members_spelt : Spelt no_members
  pair_spelt : {a b : ℕ} → a < 4294967296 → b < 4294967296 → Spelt (no_pair a b)
  refusal_spelt : {n p : ℕ} → n < 4294967296 → p < 4294967296 → Spelt (declined n p)

said-spelt : {h : History} → LawfulHistory h → {level : ℕ} → 1 ≤ level → level ≤ 3 → {o : List ℕ} {x : Reply} → ClaimSays h level o x → Spelt x
said-spelt ok a b (right c y) = yes_spelt
said-spelt ok a b (wrong_read {i} f) = read_spelt {i = i} (omega (arith, f.unclean.judged.to, ok.few_ops))
said-spelt ok a b (wrong_members c w) = members_spelt
said-spelt {h} ok {level} a b (wrong_pair {a = c} {b = d} clean l x) =
    let e = (forced_iff ok a b c d).1 x.is.forced in
    pair_spelt {a = c} {b = d} (omega (arith, ((forces h level).first_in _ _ e).0, ok.few_txs)) (omega (arith, ((forces h level).second_in _ _ e).0, ok.few_txs))

claims-spelt : {s : List ℕ} {level : ℕ} {o : List ℕ} {x : Reply} → Claims s level o x → Spelt x
claims-spelt (no_level d) = refusal_spelt {n = 1} {p = 0} (omega arith) (omega arith)
claims-spelt (reading_refused {n} {p} a b r) = let m = refused_small r in refusal_spelt {n = n} {p = p} (omega (arith, m.0)) (omega (arith, m.1))
claims-spelt (of_history a b i x) = said-spelt (lawful_history i) a b x

-- what is put is told
put-told : (ns : List ℕ) {x : Reply} → Spelt x → NumbersTold ns (whole_put (reply_bytes x) ns) x
unfolding reply_bytes
put-told ns yes_spelt = of_yes (five-told 0 0 0 0 0 ns (omega arith) (omega arith) (omega arith) (omega arith) (omega arith))
put-told ns (read_spelt {i} l) = of_read (five-told i 0 0 0 0 ns l (omega arith) (omega arith) (omega arith) (omega arith))
put-told ns members_spelt = of_members (five-told 0 0 0 0 0 ns (omega arith) (omega arith) (omega arith) (omega arith) (omega arith))
put-told ns (pair_spelt {a} {b} l k) = of_pair (five-told 0 a b 0 0 ns (omega arith) l k (omega arith) (omega arith))
put-told ns (refusal_spelt {n} {p} l k) = of_refusal (five-told 0 0 0 n p ns (omega arith) (omega arith) (omega arith) l k)

-- in one way
told_one : {ns N M : List ℕ} {x : Reply} → NumbersTold ns N x → NumbersTold ns M x → N ≡ M
told_one (of_yes a) (of_yes b) = five_one a b
told_one (of_read a) (of_read b) = five_one a b
told_one (of_members a) (of_members b) = five_one a b
told_one (of_pair a) (of_pair b) = five_one a b
told_one (of_refusal a) (of_refusal b) = five_one a b

module _ (s : List ℕ) (level : ℕ) (o ns : List ℕ) where
  pub numbered-told : (r : ℕ) (N : List ℕ) → in_numbers r N ≡ claimed_in_numbers s level o ns → ClaimNumbered s level o ns r N
  unfolding claimed_in_numbers
  numbered-told r N e =
      let x = claims s level o in
      record {
        said = claimed s level o;
        claims = x;
        number = ap (λ (z : InNumbers). z.answer) e;
        numbers = rw (ap (λ (z : InNumbers). z.numbers) e) (put-told ns (claims-spelt x));
      }

  -- one answer, and one content of the slice
  pub numbered_one : {r q : ℕ} {N M : List ℕ} → ClaimNumbered s level o ns r N → ClaimNumbered s level o ns q M → (r ≡ q) × (N ≡ M)
  numbered_one x y =
      let e = claims_one s level o x.claims y.claims in
      (x.number ∙ ap reply_no e ∙ sym y.number, told_one (rw e at x.numbers) y.numbers)
