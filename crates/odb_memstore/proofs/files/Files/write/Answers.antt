use Rattle.std.proofs.Common.{◌≡◌, ◌+◌, ◌-◌, ◌∙◌, List, ℕ, length, replicate, sym, ap, arith, length-append}
use Rattle.std.proofs.lemmas.List.{length-replicate}
use Rattle.odb_memstore.specs.Numbered.{bytes_of, with_bytes, extended, pasted}
use Rattle.odb_memstore.proofs.Named.{bytes_of-same, with_again}
use Rattle.odb_memstore.proofs.Grown.{pasted-extended}
use Rattle.odb_memstore.proofs.files.Files.write.Goals as goal
use Rattle.odb_memstore.proofs.files.Files.write.Goals.{After-grow}

-- what the file has once it is long enough
has : (c : After-grow) → bytes_of c.grow.new.self.files c.args.file ≡ extended (c.args.at + length c.args.piece.now) (bytes_of c.args.self.now.files c.args.file)
has c = ap (λ (l : List (ℕ × List ℕ)). bytes_of l c.args.file) c.grow.ensures.files ∙ bytes_of-same c.args.file (extended (c.args.at + length c.args.piece.now) (bytes_of c.args.self.now.files c.args.file)) c.args.self.now.files

pub copy_in-requires-clause-there : goal.copy_in-requires-clause-there
copy_in-requires-clause-there c =
    let file = c.args.file in
    let files = c.args.self.now.files in
    let e = extended (c.args.at + length c.args.piece.now) (bytes_of files file) in
    c.grow.ensures.files ∙ sym (with_again file e e files) ∙ sym (ap (λ (l : List (ℕ × List ℕ)). with_bytes l file e) c.grow.ensures.files)
    ∙ ap (with_bytes c.grow.new.self.files file) (sym (has (goal.at.copy_in-requires-clause-there c).After-grow))

pub copy_in-requires-clause-within : goal.copy_in-requires-clause-within
copy_in-requires-clause-within c =
    let old = bytes_of c.args.self.now.files c.args.file in
    let more = c.args.at + length c.args.piece.now - length old in
    omega (arith, ap length (has (goal.at.copy_in-requires-clause-within c).After-grow), length-append old (replicate more 0), length-replicate {A = ℕ} more 0)

pub returns-clause-files : goal.returns-clause-files
returns-clause-files c =
    let file = c.args.file in
    let files = c.args.self.now.files in
    let piece = c.args.piece.now in
    let e = extended (c.args.at + length piece) (bytes_of files file) in
    c.copy_in.ensures.files ∙ ap (λ (x : List ℕ). with_bytes c.grow.new.self.files file (pasted c.args.at piece x)) (has (goal.at.returns-clause-files c).After-grow)
    ∙ ap (λ (l : List (ℕ × List ℕ)). with_bytes l file (pasted c.args.at piece e)) c.grow.ensures.files
    ∙ with_again file (pasted c.args.at piece e) e files
    ∙ ap (with_bytes files file) (pasted-extended c.args.at piece (bytes_of files file))
