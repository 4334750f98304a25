use Rattle.server.proofs.serving.serve_stream.Goals as goal

pub returns-clause-served : goal.returns-clause-served
returns-clause-served g c = (c.serve_connection-end.result, record { input = _; rest = _; output = _; after = _ }, c.serve_connection-end.ensures.served)
