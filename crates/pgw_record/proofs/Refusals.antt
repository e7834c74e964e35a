-- What a record itself is refused with is no want of memory.
use Rattle.std.proofs.Common.{inl, inr, ℕ, List, true}
use Rattle.pgw_wire.specs.declared.sql_error.SqlError.{SqlError}
use Rattle.pgw_meta.specs.Reading.{IsRefusal}
use Rattle.pgw_nested.proofs.Refusals.{refusal_is, no_frame_refusal}
use Rattle.pgw_record.specs.Record.{HasNoOid, HasNoComponent, no_oid, no_cell, BeginsNoRecord, no_count, other_count}

no_oid_refusal : (bytes : List ℕ) (e : SqlError) → HasNoOid bytes e → IsRefusal e
no_oid_refusal bytes e (inl h) = refusal_is e _ h.1 tt
no_oid_refusal bytes e (inr h) = refusal_is e _ h.2 tt

pub no_component_refusal : (bytes : List ℕ) (e : SqlError) → HasNoComponent bytes e → IsRefusal e
no_component_refusal bytes e (no_oid h) = no_oid_refusal bytes e h
no_component_refusal bytes e (no_cell oid rest _ _ _ h) = no_frame_refusal true rest e h

pub no_record_refusal : (bytes : List ℕ) (n : ℕ) (e : SqlError) → BeginsNoRecord bytes n e → IsRefusal e
no_record_refusal bytes n e (no_count _ is) = refusal_is e _ is tt
no_record_refusal bytes n e (other_count _ _ _ _ _ is) = refusal_is e _ is tt
