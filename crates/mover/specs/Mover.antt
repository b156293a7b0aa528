-- What the functions ask for that write a history as a trace of an edition.
use Rattle.std.specs.Prelude.{ℕ, ◌+◌, ◌*◌, ◌≡◌, Bool, true, false, length}
use Rattle.rules.specs.History.{History, tx_count, op_count}
use Rattle.rules.proofs.Singles.{ReadsSingle}
use Rattle.writing.specs.Forms.{form_of, formed, whole_of}
use Rattle.writing.proofs.Sizes.{whole_size}
use Rattle.blocks.specs.Blocks.{NoneOpen}

-- the records of a trace of each edition: two a transaction, one an operation, the end, and in edition 2 the one that it begins with
abbrev pub whole_count : Bool → ℕ → ℕ → ℕ
whole_count false t n = 2 * t + n + 1
whole_count true t n = 2 * t + n + 2

-- a history that a trace was read into: none of its transactions is open, its reads have keys of 32 bits, and its records are so many and so long
pub record Movable (second : Bool) (h : History) : Type 0 where
  pub none_open : NoneOpen h
  pub reads : ReadsSingle h
  pub many : length (whole_of second h) ≡ whole_count second (tx_count h) (op_count h)
  pub long : (n k : ℕ) → length (formed (form_of second) n k (whole_of second h)) ≡ whole_size second (tx_count h) (op_count h)
