-- What reading a cell answers.
use Rattle.std.proofs.Common.{◌≡◌, ℕ, List, Result, Ok, Err, IfOk, IsTrue, MatchResult, refl, sym, ap, ◌∙◌}
use Rattle.std.specs.Str.{IsUtf8}
use Rattle.pgw_wire.specs.Cell.{Cell}
use Rattle.pgw_wire.specs.declared.kind.Break.{Break as Kind}
use Rattle.pgw_wire.specs.declared.kind.Break.TheVariants.{Utf8}
use Rattle.pgw_meta.specs.Shape.{Shape}
use Rattle.pgw_scalar.specs.Text.{read_text}
use Rattle.pgw_scalar.proofs.Readers.{ok_is, err_is, never_both}
use Rattle.pgw_scalar.proofs.TextFields.{text_exact}
use Rattle.pgw_cell.specs.Value.{Value}
use Rattle.pgw_cell.specs.Built.{IsBuilt}
use Rattle.pgw_cell.specs.Cells.{Spells, Breaks, read_value}
use Rattle.pgw_cell.specs.Written.{AreBytes}
use Rattle.pgw_cell.specs.Data.{value_of, takes_memory, AnswersAs}
use Rattle.pgw_cell.specs.declared.datum.Datum.{Datum}
use Rattle.pgw_cell.specs.declared.read.CellFault.{CellFault}
use Rattle.pgw_cell.specs.declared.read.CellFault.TheVariants.{Break as Broken, NoMemory}
use Rattle.pgw_cell.proofs.Reading.{value_again, value_refused, value_spelled, value_broken}

pub text_read : (p : List ℕ) → IsUtf8 p → read_text p ≡ Ok p
text_read p utf8 = text_exact.reads.again p p (record { utf8 = utf8; bytes = refl })

pub text_refused : (p : List ℕ) → (IsUtf8 p → ⊥) → read_text p ≡ Err Utf8
text_refused p other = text_exact.refuses.refused Utf8 p (refl, other)

-- What an answer says of a cell that is read so.
pub record IsReadOf (t : Shape) (c : Cell) (r : Result Datum CellFault) : Type 0 where
  pub ok : IfOk r (λ d. Spells t c (value_of d))
  pub spells : (v : Value) → Spells t c v → MatchResult r (λ d. value_of d ≡ v) (λ e. e ≡ NoMemory)
  pub broken : (kind : Kind) → r ≡ Err (Broken kind) → Breaks t kind c
  pub breaks : (kind : Kind) → Breaks t kind c → r ≡ Err (Broken kind)
  pub memory : r ≡ Err NoMemory → (v : Value) × Spells t c v × IsTrue (takes_memory v)

pub read_says : (t : Shape) (c : Cell) (r : Result Datum CellFault) → IsBuilt t → AreBytes c → AnswersAs r (read_value t c) → IsReadOf t c r
read_says t c (Ok d) built bytes a = record {
  ok = value_spelled t c (value_of d) bytes a;
  spells = λ v s. ok_is (value_of d) v (sym a ∙ value_again t c v s);
  broken = λ kind x. absurd (cc);
  breaks = λ kind b. absurd (never_both (read_value t c) (value_of d) kind a (value_refused t kind c b));
  memory = λ x. absurd (cc);
}
read_says t c (Err (Broken k)) built bytes a = record {
  ok = tt;
  spells = λ v s. absurd (never_both (read_value t c) v k (value_again t c v s) a);
  broken = λ kind x. let same : k ≡ kind = cc in value_broken t kind c built bytes (a ∙ ap Err same);
  breaks = λ kind b. ap (λ j. Err (Broken j)) (err_is {A = Value} k kind (sym a ∙ value_refused t kind c b));
  memory = λ x. absurd (cc);
}
read_says t c (Err NoMemory) built bytes a = record {
  ok = tt;
  spells = λ v s. refl;
  broken = λ kind x. absurd (cc);
  breaks = λ kind b. absurd (never_both (read_value t c) a.0 kind a.1 (value_refused t kind c b));
  memory = λ x. (a.0, value_spelled t c a.0 bytes a.1, a.2);
}
