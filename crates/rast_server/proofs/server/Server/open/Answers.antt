use Rattle.std.proofs.Common.{rules, arith, ◌≡◌, ◌∙◌, ℕ, List, Bor, Some, option_map, ap, sym}
use Rattle.std.proofs.lemmas.Int.{to_z-of_z}
use Rattle.rast_server.proofs.Documents.{put_version, puts_kept}
use Rattle.rast_server.proofs.KeptTrees.{kept_at, put_at}
use Rattle.rast_server.specs.declared.server.Opened.{Opened}
use Rattle.rast_server.specs.declared.server.Server.{Server}
use Rattle.rast_server.proofs.server.Server.open.Goals as goal

pub keep-requires : goal.keep-requires
keep-requires c =
    kept_at c.insert.new.self c.in_ok-uri.uri.now _ c.in_ok-note.tree
    (sym (put_at c.in_ok-uri.uri.now _ c.prepare.new.self c.insert.new.self c.in_ok-insert.ensures.puts)) c.in_ok-note.ensures.tree

pub returns-clause-opens : goal.returns-clause-opens
returns-clause-opens c =
    let opened : Opened = record { version = c.in_ok-version.version; document = c.in_ok-document.document } in
    let new : Server = record { stage = c.args.self.now.stage; encoding = c.args.self.now.encoding; documents = c.keep.new.self } in
    record {
      uri = c.in_ok-uri.uri.now;
      opened = opened;
      uri_is = sym c.uri_of.ensures ∙ ap (option_map (λ (u : Bor (List ℕ)). u.now)) c.in_ok-uri.ensures.ok_part;
      version_is = sym c.version_of.ensures ∙ c.in_ok-version.ensures.ok_part;
      text_is = search rules;
      encoding = c.in_ok-document.ensures.encoding;
      puts = puts_kept c.in_ok-uri.uri.now (Some opened) c.args.self.now new c.prepare.new.self c.insert.new.self c.prepare.ensures c.keep.ensures
          (put_version c.in_ok-uri.uri.now c.in_ok-version.version _ c.in_ok-document.document c.prepare.new.self c.insert.new.self (grind (arith, to_z-of_z))
          c.in_ok-insert.ensures.puts);
    }
