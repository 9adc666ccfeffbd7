-- An answer and its line.
use Rattle.std.proofs.Common.{List, ℕ, ◌≤◌}
use Rattle.text.specs.Writing.{line_length, line_room}
use Rattle.text.specs.declared.Line.{Line}
use Rattle.lines.specs.Lines.{Says}
use Rattle.answers.specs.Lines.{Answers}

pub answered : {Answer : Type 0} {Said : Answer → Type 0} {text : Answer → List ℕ} {line : Line} (answer : Answer) → Said answer → Says line (text answer) → Answers Said text line × (line_length line ≤ line_room)
answered answer said printed = (record { answer = answer; said = said; printed = printed }, printed.room)
