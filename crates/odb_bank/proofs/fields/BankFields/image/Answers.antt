use Rattle.std.proofs.Common.{◌≡◌, ℕ, List, replicate, ◌∙◌, ap}
use borrow.Rule.Slice.PartMut.{put_mid}
use Rattle.byteorder.specs.Endian.{big_bytes}
use Rattle.odb_bank.specs.declared.fields.BankFields.{BankFields}
use Rattle.odb_bank.specs.Fields.{fields_image}
use Rattle.odb_bank.proofs.fields.BankFields.image.Goals as goal

-- zeros with the fields at their places
abbrev built : List ℕ → List ℕ → List ℕ → List ℕ
built format bank mark = put_mid 6 8 (put_mid 2 4 (put_mid 0 2 (replicate 36 0) format) bank) mark

built_is : (f : BankFields) (format bank mark : List ℕ) → format ≡ big_bytes 2 f.format → bank ≡ big_bytes 4 f.bank → mark ≡ big_bytes 8 f.mark → built format bank mark ≡ fields_image f
built_is f format bank mark a b c =
    ap (λ (x : List ℕ). built x bank mark) a ∙ ap (λ (x : List ℕ). built (big_bytes 2 f.format) x mark) b ∙ ap (built (big_bytes 2 f.format) (big_bytes 4 f.bank)) c

pub returns : goal.returns
returns c =
    let bank = rw c.write_u16.ensures at c.write_u32.ensures in
    let mark = rw (c.write_u16.ensures, bank) at c.write_u64.ensures in
    built_is c.args.self.now c.write_u16.new.buf c.write_u32.new.buf c.write_u64.new.buf c.write_u16.ensures bank mark
