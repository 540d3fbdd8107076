-- `text::put` meets its contract: what is written is the part of the text that the bytes are copied to. Assumes nothing.
use mathlib.Core.Path.{refl}
use Prim.Native.Nat.{◌+◌, ◌-◌}
use native.Mathlib.Omega.{arith}
use lib.ListN.{length}
use lib.Seq.{take-length}
use Rattle.std.proofs.lemmas.Slice.{put_mid-paste}
use Rattle.text.proofs.put.Goals as goal

pub returns : goal.returns
returns c =
    let bytes = c.args.bytes.now in
    record {
      fits = λ h. (rw take-length at (put_mid-paste c.args.at (c.args.at + length bytes - c.args.at) c.args.out.now c.copy_from_slice.new.self bytes (length bytes) c.copy_from_slice.ensures.after (omega arith) refl), refl);
      full = λ h. absurd (omega arith);
      within = omega arith;
    }
