use Rattle.std.proofs.Common.{rules, ◌∙◌, ℕ, List, Bor, option_map, ap, sym}
use Rattle.rast_server.proofs.server.Server.close.Goals as goal

pub returns-clause-closes : goal.returns-clause-closes
returns-clause-closes c = record {
  uri = c.in_ok-uri.uri.now;
  uri_is = sym c.uri_of.ensures ∙ ap (option_map (λ (u : Bor (List ℕ)). u.now)) c.in_ok-uri.ensures.ok_part;
  was = search rules;
  puts = c.remove.ensures.puts;
}
