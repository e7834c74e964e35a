-- What an array itself is refused with is no want of memory.
use Rattle.std.proofs.Common.{◌≡◌, ℕ, List, Bool, sym, subst}
use Rattle.pgw_wire.specs.declared.sql_error.SqlError.{SqlError}
use Rattle.pgw_meta.specs.Reading.{IsRefusal}
use Rattle.pgw_nested.specs.Frames.{HasNoFrame, no_length, negative_length, past_the_end}
use Rattle.pgw_nested.specs.Array.{BeginsNoArray, too_short, too_short_for_one, many_dimensions}

pub refusal_is : (e f : SqlError) → e ≡ f → IsRefusal f → IsRefusal e
refusal_is e f is h = subst (λ (x : SqlError). IsRefusal x) (sym is) h

pub no_frame_refusal : (nulls : Bool) (bytes : List ℕ) (e : SqlError) → HasNoFrame nulls bytes e → IsRefusal e
no_frame_refusal nulls bytes e (no_length _ is) = refusal_is e _ is tt
no_frame_refusal nulls bytes e (negative_length n rest _ _ _ _ is) = refusal_is e _ is tt
no_frame_refusal nulls bytes e (past_the_end n rest _ _ _ is) = refusal_is e _ is tt

pub no_array_refusal : (bytes : List ℕ) (e : SqlError) → BeginsNoArray bytes e → IsRefusal e
no_array_refusal bytes e (too_short _ is) = refusal_is e _ is tt
no_array_refusal bytes e (too_short_for_one n rest _ _ _ _ is) = refusal_is e _ is tt
no_array_refusal bytes e (many_dimensions n rest _ _ _ _ _ is) = refusal_is e _ is tt
