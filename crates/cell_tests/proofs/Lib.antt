mod TestedMetrics
