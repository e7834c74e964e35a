use Rattle.std.proofs.Common.{◌+◌, ◌++◌, ℕ, length, sym, ap, ◌∙◌, append_assoc}
use Rattle.std.specs.Int.{to_be_bytes, w32}
use Rattle.pgw_nested.specs.Array.{array_head, flags_of}
use Rattle.pgw_cell.proofs.Rewriting.{plain_length}
use Rattle.pgw_cell.proofs.rewrite.push_plain_array.Goals as goal

pub returns-clause-bytes : goal.returns-clause-bytes
returns-clause-bytes c =
    let old = c.args.out.now.bytes in
    let bytes = c.args.elements.now in
    let head = array_head (flags_of c.args.null) c.args.oid c.args.count 1 in
    let size = to_be_bytes w32 (20 + length bytes) in
    c.push_reserved.ensures.bytes ∙ ap (λ l. l ++ bytes) (c.push_head.ensures.bytes ∙ ap (λ n. old ++ (size ++ array_head n c.args.oid c.args.count 1)) c.flags.ensures)
    ∙ append_assoc old (size ++ head) bytes ∙ ap (λ l. old ++ l) (append_assoc size head bytes)
    ∙ ap (λ (n : ℕ). old ++ (to_be_bytes w32 n ++ (head ++ bytes))) (sym (plain_length c.args.oid c.args.count c.args.null bytes))
