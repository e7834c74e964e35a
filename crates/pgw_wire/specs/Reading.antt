-- What a read of a reader of std into a buffer leaves, where each error is counted.
use Rattle.std.specs.Prelude.{◌≡◌, ℕ, ◌<◌, ◌≤◌, List, length, take, drop, Option, Result, Ok, IfOk, OnErr}
use Rattle.std.specs.Io.KnownBytes.{Consumes, IsAtEnd, Keeps}
use Rattle.pgw_wire.specs.Outside.{counted}

-- At Ok(n) the first n bytes that were left stand in front of the buffer, which has room for them, and all behind them is as
-- before. No byte comes only at the end or where there is no room. An error leaves the bytes and the buffer. It is counted
-- once, and Ok is not.
pub record Fills {E : Type 0} (before now : Option (List ℕ)) (faults faults_now : ℕ) (result : Result ℕ E)
    (buf buf_now : List ℕ) : Type 0 where
  pub within : IfOk result (λ n. n ≤ length buf)
  pub taken : IfOk result (λ n. Consumes before now (take n buf_now))
  pub rest : IfOk result (λ n. drop n buf_now ≡ drop n buf)
  pub at_end : result ≡ Ok 0 → 0 < length buf → IsAtEnd now
  pub err : OnErr result (Keeps before now)
  pub buffer_kept : OnErr result (buf_now ≡ buf)
  pub no_fault : IfOk result (λ _. faults_now ≡ faults)
  pub fault : OnErr result (faults_now ≡ counted faults)
