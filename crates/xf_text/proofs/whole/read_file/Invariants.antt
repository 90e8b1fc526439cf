use Rattle.std.proofs.Common.{◌≡◌, ◌≤◌, ◌-◌, ◌+◌, ◌^◌, true, vec_len}
use Rattle.xf_text.specs.Outside.{bytes_at, Taken}
use Rattle.xf_text.proofs.whole.read_file.Given as goal

abbrev pub invariant-parts : goal.invariant-parts
invariant-parts g l =
    let s = g.S.Shelf in
    record {
      files : s.files l.files ≡ s.files l.fn.files;
      asks : s.may_ask l.files ≡ s.may_ask l.fn.files;
      begun : s.is_begun l.files ≡ true;
      count : s.faults l.fn.files ≤ s.faults l.files;
      few : vec_len l.bytes ≤ 67108864;
      room : vec_len l.block ≡ 65536;
      taken : Taken (bytes_at (s.files l.fn.files) l.name) (s.left l.files) l.bytes.items;
    }

abbrev pub decreases-parts : goal.decreases-parts
decreases-parts g l = 67108865 - vec_len l.bytes
