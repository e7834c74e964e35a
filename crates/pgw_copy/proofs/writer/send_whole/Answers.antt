use Rattle.std.proofs.Common.{take, drop, sym, arith, length-drop}
use Rattle.std.proofs.lemmas.List.{take-append-drop}
use Rattle.pgw_copy.proofs.writer.send_whole.Goals as goal

pub returns-then-send-piece : goal.returns-then-send-piece
returns-then-send-piece g c = record {
  writes = (
    record {
      front = take c.send.result c.args.piece.now;
      rest = drop c.send.result c.args.piece.now;
      is = sym (take-append-drop c.send.result c.args.piece.now);
      missing = omega (arith, c.if-send-piece.true, length-drop c.send.result c.args.piece.now);
      written = c.send.ensures.wrote;
    },
    c.send.ensures.failed c.if-send-piece.true,
  );
}
