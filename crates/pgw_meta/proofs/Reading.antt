-- Which errors a reader may hand on as they are, and which of what it reads through another.
use Rattle.std.proofs.Common.{Bool, IsTrue}
use Rattle.pgw_wire.specs.declared.sql_error.SqlError.{SqlError}
use Rattle.pgw_wire.specs.declared.sql_error.SqlError.TheVariants.{NoMemory}
use Rattle.pgw_meta.specs.Reading.{IsRefused, IsRefusal}

pub refused : (refuses : SqlError → Type 0) (memory : Bool) (e : SqlError) → refuses e → IsRefusal e → IsRefused refuses memory e
refused refuses memory NoMemory h is = absurd is
refused refuses memory e h is = h

-- where each error of the one is an error of the other, and the other may want memory where the one may
pub refused_too : (P Q : SqlError → Type 0) (m n : Bool) (e : SqlError) → (P e → Q e) → (IsTrue m → IsTrue n)
    → IsRefused P m e → IsRefused Q n e
refused_too P Q m n NoMemory weaker more h = more h
refused_too P Q m n e weaker more h = weaker h
