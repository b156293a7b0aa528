-- Document 02, requests One and Five: an event as a step or as a record, by edition; a history's events as blocks.
use Rattle.std.specs.Prelude.{ℕ, ◌+◌, ◌%◌, ◌^◌, Bool, true, false, List, [], ◌∷◌, ◌++◌, map}
use Rattle.base.specs.Base.{listed}
use Rattle.rules.specs.History.{History, tx, tx_count, size}
use Rattle.rules.specs.Traces.{Item, item, opens, ends, edition, r_of, w_of, closes_of, record_of}
use Rattle.rules.specs.declared.Event.{Event}
use Rattle.rules.specs.declared.Event.TheVariants.{Open, Read, Write, Close, End, Note, Other}
use Rattle.writing.specs.declared.Form.{Form}
use Rattle.writing.specs.declared.Form.TheVariants.{Step, First, Second}
use Rattle.writing.specs.Steps.{step_bytes}
use Rattle.writing.specs.Writing.{item_of}
use Rattle.writing.specs.Listing.{tx_steps}

-- an event, and the session of the transaction that it is of; an end and the record that says the edition are of none
pub record Marked : Type 0 where
  pub session : ℕ
  pub event : Event

abbrev pub mark : ℕ → Event → Marked
mark n e = record { session = n; event = e }

-- ── one event ──

-- a record of edition 2, of session n, but for its serial: "Read and write .. and close .. have the session before their other fields"; "Edition 2 of the
-- trace begins with a kind 16 record, payload 2"
unfoldable pub item_with : ℕ → Event → Item
item_with n (Open s) = opens s
item_with n (Read x v) = r_of n x v
item_with n (Write x v) = w_of n x v
item_with n (Close c) = closes_of n c
item_with n (End m) = ends m
item_with n Note = item 6 []
item_with n Other = edition 2

-- a record of either edition
abbrev pub item_in : Bool → Marked → Item
item_in false m = item_of m.event
item_in true m = item_with m.session m.event

-- the bytes of an event in each form, where a record has the serial n
unfoldable pub form_bytes : Form → ℕ → Marked → List ℕ
form_bytes Step n m = step_bytes m.event
form_bytes First n m = record_of n (item_in false m)
form_bytes Second n m = record_of n (item_in true m)

-- the records of an edition
abbrev pub form_of : Bool → Form
form_of false = First
form_of true = Second

-- .. of several, the first of which stands behind k others: "The first serial", n, "is kept and the rest follow it"
unfoldable pub formed : Form → ℕ → ℕ → List Marked → List ℕ
formed form n k [] = []
formed form n k (m ∷ ms) = form_bytes form ((n + k) % 2 ^ 32) m ++ formed form n (k + 1) ms

-- ── a history's events ──

-- transaction t: its open, its own operations in order, its close
unfoldable pub tx_block : History → ℕ → List Marked
tx_block h t = map (mark (tx h t).session) (tx_steps h t)

-- "transactions become blocks in order of opening"
unfoldable pub blocks_of : History → List Marked
blocks_of h = listed 1 (size h) (tx_block h)

-- what a trace of each edition begins with
unfoldable pub preamble : Bool → List Marked
preamble false = []
preamble true = mark 0 Other ∷ []

-- a whole trace: "Notes are left out"
unfoldable pub whole_of : Bool → History → List Marked
whole_of second h = preamble second ++ (blocks_of h ++ (mark 0 (End (tx_count h)) ∷ []))
