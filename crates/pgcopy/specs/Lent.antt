-- What a writer that was lent gained, and what a sink over it tells, which keeps a buffer in front of it.
use Rattle.std.specs.Prelude.{◌≡◌, ◌≢◌, ℕ, ◌-◌, Bool, true, false, List, [], ◌∷◌, ◌++◌, length, Option, Some, IfSome, option_map}
use Rattle.std.specs.Io.KnownBytes.{Appends}
use Rattle.pgw_tree.specs.declared.fault.CopyFault.{CopyFault}
use Rattle.pgw_tree.specs.declared.fault.CopyFault.TheVariants.{Truncated, UnknownType, LookupFault}
use Rattle.pgw_tree.specs.Causes.{IsCopied}
use Rattle.pgw_meta.specs.Keys.{owned_key}
use Rattle.pgw_meta.specs.declared.key.TypeKey.{TypeKey}
use Rattle.pgcopy.specs.Words.{PlanData, missing, canonical_rows}
use Rattle.pgcopy.specs.Runs.{run_says}
use Rattle.pgcopy.specs.declared.report.Outcome.TheVariants.{Copied, Fault}
use Rattle.pgcopy.specs.Report.{line_of}

-- The bytes of a lent writer, behind its name and how many bytes it had before the last so many. What std tells of a
-- buffer is what it holds together with its writer. With these two in front that tells, too, that its writer is still
-- the one that was lent, and that it still has at least what it had.
abbrev pub marked : ℕ → ℕ → Option (List ℕ) → Option (List ℕ)
marked name passed contents = option_map (λ bytes. name ∷ (length bytes - passed) ∷ bytes) contents

-- What of a buffer counts as got: none of it behind a flush, where all is with the writer.
abbrev pub kept_back : Bool → List ℕ → List ℕ
kept_back true buffer = []
kept_back false buffer = buffer

-- A writer got a front of these bytes, all of them or fewer, where its bytes are told.
pub record GotFront (before now : Option (List ℕ)) (bytes : List ℕ) : Type 0 where
  pub front : List ℕ
  pub rest : List ℕ
  pub is : bytes ≡ front ++ rest
  pub appends : Appends before now front

-- The input began with one stream of so many rows, where its bytes are told; the output got the canonical stream of
-- these rows; and a front of the line went to the errors.
pub record CopiedOut (plan : PlanData) (n : ℕ) (input output output_now errors errors_now : Option (List ℕ))
    : Type 0 where
  pub taken : List ℕ
  pub rest : List ℕ
  pub began : IfSome input (λ bytes. bytes ≡ taken ++ rest)
  pub copied : IsCopied plan.limits plan.columns (canonical_rows plan) n (Appends output output_now) taken
  pub line : GotFront errors errors_now (line_of (Copied n))

-- What a fault says of what the input began with, and of the bytes of which the output got a front; and a front of the
-- line went to the errors. A truncated stream is all that the input had, and a type that is not known is the first that
-- is missing. No lookup fails.
pub record StoppedOut (plan : PlanData) (fault : CopyFault)
    (input output output_now errors errors_now : Option (List ℕ)) : Type 0 where
  pub taken : List ℕ
  pub rest : List ℕ
  pub began : IfSome input (λ bytes. bytes ≡ taken ++ rest)
  pub at_end : fault ≡ Truncated → IfSome input (λ _. rest ≡ [])
  pub says : run_says plan fault (GotFront output output_now) taken
  pub is_missing : (key : TypeKey) → fault ≡ UnknownType key → missing plan ≡ Some (owned_key key)
  pub looked_up : fault ≢ LookupFault
  pub line : GotFront errors errors_now (line_of (Fault fault))
