use Rattle.std.proofs.Common.{◌∙◌, ap}
use Rattle.odb_device.specs.Images.{overwritten}
use Rattle.odb_memstore.specs.Numbered.{with_bytes}
use Rattle.odb_memstore.proofs.Grown.{overwritten-nothing}
use Rattle.odb_memstore.proofs.files.Files.set.Goals as goal

pub returns-clause-files : goal.returns-clause-files
returns-clause-files c =
    let bytes = c.args.bytes.now in
    c.write.ensures.files ∙ ap (with_bytes c.cut.new.self.files c.args.file) (ap (overwritten 0 bytes) c.cut.ensures.empty ∙ overwritten-nothing bytes) ∙ c.cut.ensures.same bytes
