-- What an export leaves, as one value: what C is answered, and every lent table. Each contract is one equation with these.
use Rattle.std.specs.Prelude.{ℕ, List, ℤ}
use Rattle.engine.specs.Answers as engine
use Rattle.feed.specs.Feeding as feed
use Rattle.host.specs.declared.faces.FedFace.{FedFace}
use Rattle.host.specs.Faces.{fed_face}

-- The answer by its face, and the tables as the engine leaves them.
abbrev pub faced : {A B : Type 0} → (A → B) → engine.After A → engine.After B
faced face r = record { answer = face r.answer; book = r.book; sums = r.sums; finishes = r.finishes }

-- The same of a piece of a log: its tables, and the buffer of answers.
pub record AfterPiece : Type 0 where
  pub answer : FedFace
  pub book : List ℕ
  pub sums : List ℤ
  pub out : List ℕ

abbrev pub fed_left : FedFace → List ℕ → List ℤ → List ℕ → AfterPiece
fed_left answer book sums out = record { answer = answer; book = book; sums = sums; out = out }

abbrev pub fed_faced : feed.After → AfterPiece
fed_faced r = fed_left (fed_face (record { taken = r.taken; wrote = r.wrote; full = r.full; standing = r.standing })) r.book r.sums r.out
