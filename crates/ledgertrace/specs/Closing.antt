-- What is printed of a closing.
-- Serves contracts of inner functions and proofs; nothing here has to be believed. Assumes nothing.
use Rattle.std.specs.Prelude.{ℕ, ◌+◌, ◌*◌, List, [], ◌++◌, length, take, drop, if◌then◌else◌}
use Rattle.sheet.specs.Ascii.{ascii}
use Rattle.sheet.specs.CallLine.{call_line}
use Rattle.console.specs.Filled.{filled}
use Rattle.reckoner.specs.Ledger.{Ledger}
use Rattle.reckoner.specs.Calls.{answered, answer_number, periods_answer, closed_buffer}

-- the line of a closing with these figures, and another one where what lies beyond them is no longer filled
abbrev pub closing_lines : (number : ℕ) (figures beyond : List ℕ) → List ℕ
closing_lines number figures beyond = call_line (ascii "close") number figures ++ (if filled beyond then [] else ascii "buffer changed\n")

-- where the figures end that a closing of this ledger wrote: those of its years, or none where it was refused
abbrev pub figures_end : Ledger → (size : ℕ) → ℕ
figures_end l size = answered (periods_answer l [] size) (λ n. 0) (64 * l.given + 32)

-- of a closing of this ledger that is lent this buffer
abbrev pub closed_lines : Ledger → (buffer : List ℕ) → List ℕ
closed_lines l buffer =
    closing_lines (answer_number (periods_answer l [] (length buffer)))
    (take (figures_end l (length buffer)) (closed_buffer l buffer))
    (drop (figures_end l (length buffer)) (closed_buffer l buffer))
