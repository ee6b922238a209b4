mod KnownValues
