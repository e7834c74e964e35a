use Rattle.std.proofs.Common.{sym, ap, ◌∙◌, Some}
use Rattle.pgcopy.proofs.TypeNames.{text_fault, no_want_of_memory, fault_told, record_told, nothing_told}
use Rattle.pgcopy.proofs.words.type_fault_of.Goals as goal

pub as_word_fault-requires : goal.as_word_fault-requires
as_word_fault-requires c = no_want_of_memory c.args.word.now c.in-Some.fault (text_fault c.args.word.now c.in-Some.fault c.type_fault.result c.in-Some.is c.type_fault.ensures.fault)

pub returns-in-Some : goal.returns-in-Some
returns-in-Some c =
    ap Some c.as_word_fault.ensures ∙ fault_told c.args.word.now c.in-Some.fault (text_fault c.args.word.now c.in-Some.fault c.type_fault.result c.in-Some.is c.type_fault.ensures.fault)

pub returns-in-None : goal.returns-in-None
returns-in-None c = record_told c.args.word.now c.type_fault.result c.in-None.is c.type_fault.ensures.none (sym c.has_record.ensures ∙ c.if-has_record.true)

pub returns-in-None-2 : goal.returns-in-None-2
returns-in-None-2 c = nothing_told c.args.word.now c.type_fault.result c.in-None-2.is c.type_fault.ensures.none (sym c.has_record.ensures ∙ c.if-has_record.false)
