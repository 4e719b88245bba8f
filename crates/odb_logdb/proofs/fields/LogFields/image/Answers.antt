use Rattle.std.proofs.Common.{◌≡◌, ℕ, List, replicate, ◌∙◌, ap}
use Rattle.std.specs.Int.{w8, to_be_bytes}
use borrow.Rule.Slice.PartMut.{put_mid}
use Rattle.byteorder.specs.Endian.{big_bytes}
use Rattle.odb_logdb.specs.declared.fields.LogFields.{LogFields}
use Rattle.odb_logdb.specs.Fields.{fields_image}
use Rattle.odb_logdb.proofs.fields.LogFields.image.Goals as goal

-- zeros with the fields at their places
abbrev built : List ℕ → List ℕ → List ℕ → List ℕ → List ℕ
built format state first start = put_mid 11 8 (put_mid 3 8 (put_mid 2 1 (put_mid 0 2 (replicate 36 0) format) state) first) start

built_is : (f : LogFields) (format state first start : List ℕ) → format ≡ big_bytes 2 f.format → state ≡ to_be_bytes w8 f.state → first ≡ big_bytes 8 f.first → start ≡ big_bytes 8 f.start → built format state first start ≡ fields_image f
built_is f format state first start a b c d =
    ap (λ (x : List ℕ). built x state first start) a ∙ ap (λ (x : List ℕ). built (big_bytes 2 f.format) x first start) b
    ∙ ap (λ (x : List ℕ). built (big_bytes 2 f.format) (to_be_bytes w8 f.state) x start) c ∙ ap (built (big_bytes 2 f.format) (to_be_bytes w8 f.state) (big_bytes 8 f.first)) d

pub returns : goal.returns
returns c =
    let copied = c.copy_from_slice.ensures.after ∙ c.state_bytes.ensures in
    let first = rw (c.write_u16.ensures, copied) at c.write_u64.ensures in
    let start = rw (c.write_u16.ensures, copied, first) at c.write_u64-2.ensures in
    built_is c.args.self.now c.write_u16.new.buf c.copy_from_slice.new.self c.write_u64.new.buf c.write_u64-2.new.buf c.write_u16.ensures copied first start
